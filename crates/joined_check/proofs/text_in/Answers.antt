use Rattle.joined_check.proofs.Names.{◌∙◌}
use Rattle.joined_check.proofs.Checking.{text-part}
use Rattle.joined_check.proofs.text_in.Goals as goal

pub returns : goal.returns
returns c = c.get.ensures ∙ text-part (c.args.joined.now) c.four.result c.four.ensures.0
