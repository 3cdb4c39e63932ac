use Rattle.room.proofs.Lents.{full_room, open_room}
use Rattle.room.proofs.Text.is_full.Goals as goal

pub returns : goal.returns
returns c = let t = c.args.self.now in record { full = full_room t.room.now t.len; given = open_room t.room.now t.len }
