use Rattle.html_tags.proofs.Names.{◌∙◌}
use Rattle.base.specs.Result.{refused}
use Rattle.html_tags.proofs.Blocks.{closed_then}
use Rattle.html_tags.proofs.meet_meta.Goals as goal

pub returns-clause-refused : goal.returns-clause-refused
returns-clause-refused c = c.no_form_in.ensures ∙ closed_then _ _ c.args.st.now (λ _. refused 11 c.args.at) c.change_style.ensures.text
