use Rattle.joined.proofs.Names.{ap, ◌∙◌, take}
use Rattle.room.proofs.Lents.{with_same}
use Rattle.joined.proofs.Writing.{four_bytes}
use Rattle.joined.proofs.put_four.Goals as goal

pub returns : goal.returns
returns c = with_same _ _ _ _ (ap (take 4) c.to_le_bytes.ensures ∙ four_bytes c.args.n) c.put_all.ensures
