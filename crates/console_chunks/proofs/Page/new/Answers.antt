use Rattle.room.proofs.Lents.{lent-new}
use Rattle.console_chunks.proofs.Page.new.Goals as goal

pub returns-clause-text : goal.returns-clause-text
returns-clause-text c = lent-new _ c.args.room.now
