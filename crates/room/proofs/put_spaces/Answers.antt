use Rattle.room.proofs.Names.{refl, arith, replicate, length-replicate}
use Rattle.room.proofs.Laws.{spaced, full}
use Rattle.room.proofs.put_spaces.Goals.{else-len-room-via-else-len-room, else-len-room-via-then-len-room+else-n-room}
use Rattle.room.proofs.put_spaces.Goals as goal

pub returns-then-n-room : goal.returns-then-n-room
returns-then-n-room c =
    let a = c.args in
    spaced a.room.now c.fill.new.self a.len a.n _ (omega arith) (omega arith) (c.fill.ensures.after (λ y e. e))

pub returns : goal.returns
returns c =
    let a = c.args in
    full (a.room.now) (a.room.now) (replicate a.n 0x20) a.len a.n (length-replicate a.n 0x20) refl (elim c.else-len-room.branch [
      | else-len-room-via-then-len-room+else-n-room w ↦ omega arith
      | else-len-room-via-else-len-room w ↦ omega arith
    ])
