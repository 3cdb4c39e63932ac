use Rattle.renderer.proofs.Names.{seen_in, seen-out}
use Rattle.renderer.proofs.Answers.{eleven_full, eleven_there}
use Rattle.renderer.proofs.no_form.Goals as goal

pub returns-then-room-len : goal.returns-then-room-len
returns-then-room-len c = eleven_full _ c.args.at (seen-out c.args.room.now c.args.len c.if-room-len.true)

pub returns-else-room-len : goal.returns-else-room-len
returns-else-room-len c = eleven_there _ c.args.at (seen_in c.args.room.now c.args.len c.if-room-len.false)
