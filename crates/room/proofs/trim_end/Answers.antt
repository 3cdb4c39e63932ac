use Rattle.room.proofs.Laws.{trimmed, trimmed_out}
use Rattle.room.proofs.trim_end.Goals as goal

pub returns-then-len-room : goal.returns-then-len-room
returns-then-len-room c = trimmed_out _ _ c.if-len-room.true

pub returns : goal.returns
returns c = trimmed _ _ _ c.if-len-room.false c.trim_end.ensures
