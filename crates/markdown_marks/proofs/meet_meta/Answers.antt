use Rattle.markdown_marks.proofs.Names.{◌∙◌, refused}
use Rattle.markdown_marks.proofs.Texts.{closed_then}
use Rattle.markdown_marks.proofs.meet_meta.Goals as goal

pub returns : goal.returns
returns c = c.no_form_in.ensures ∙ closed_then _ _ c.args.st (λ _. refused 11 c.args.at) c.change_to_markdown_style.ensures
