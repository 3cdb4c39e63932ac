use Rattle.room.proofs.Names.{◌∙◌}
use mathlib.Core.Path.{ap}
use Rattle.base.specs.Bytes.{ends_with}
use Rattle.base.proofs.Prefix.{ends_with-library}
use Rattle.room.proofs.Laws.{cut}
use Rattle.room.proofs.ends_with.Goals as goal

pub returns : goal.returns
returns c = c.ends_with.ensures.value ∙ ends_with-library _ _ ∙ ap (ends_with c.args.tail.now) (rw c.min-to.ensures (cut _ _))
