use Rattle.room.proofs.Names.{refl, ◌+◌, ◌-◌, arith, length}
use Rattle.room.proofs.Laws.{copied, part_length, part_wrote, wrote, full}
use Rattle.room.proofs.put_all.Goals.{else-len-room-via-else-len-room, else-len-room-via-then-len-room+else-bytes-room}
use Rattle.room.proofs.put_all.Goals as goal

pub returns-then-bytes-room : goal.returns-then-bytes-room
returns-then-bytes-room c =
    let a = c.args in
    let r = a.room.now in
    let x = a.bytes.now in
    let g = c.copy_from_slice in
    let k = a.len + length x - a.len in
    let e = copied r g.new.room x a.len k (omega arith) (omega arith) g.ensures in
    wrote r _ x a.len _ refl (part_length r g.new.room x a.len k (omega arith) (omega arith) e) (omega arith)
    (part_wrote r g.new.room x a.len k (omega arith) (omega arith) e)

pub returns : goal.returns
returns c =
    let a = c.args in
    full (a.room.now) (a.room.now) (a.bytes.now) a.len _ refl refl (elim c.else-len-room.branch [
      | else-len-room-via-then-len-room+else-bytes-room w ↦ omega arith
      | else-len-room-via-else-len-room w ↦ omega arith
    ])
