use Rattle.room.proofs.Lents.{lent-new}
use Rattle.room.proofs.Text.new.Goals as goal

pub returns : goal.returns
returns c = lent-new _ c.args.room.now
