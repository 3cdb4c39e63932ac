use Rattle.room.proofs.Lents.{full_room, open_room}
use Rattle.console_chunks.proofs.Page.is_full.Goals as goal

pub returns-clause-full : goal.returns-clause-full
returns-clause-full c = let p = c.args.self.now in full_room p.room.now p.len.0

pub returns-clause-given : goal.returns-clause-given
returns-clause-given c = let p = c.args.self.now in open_room p.room.now p.len.0
