use Rattle.joined.proofs.Names.{ap, ◌∙◌, take, overwritten}
use Rattle.joined.proofs.Writing.{four_bytes}
use Rattle.joined.proofs.set_four.Goals as goal

pub returns : goal.returns
returns c = c.copy_from_slice.ensures ∙ ap (overwritten c.args.room.now 0) (ap (take 4) c.to_le_bytes.ensures ∙ four_bytes c.args.n)
