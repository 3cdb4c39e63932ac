use Rattle.room.proofs.Names.{refl, [], ◌∷◌, arith, add-one, set, length-set, take-suc-set}
use Rattle.room.proofs.Laws.{wrote, full}
use Rattle.room.proofs.put.Goals as goal

pub returns-then-len-room : goal.returns-then-len-room
returns-then-len-room c =
    let a = c.args in
    let r = a.room.now in
    wrote r (set r a.len a.byte) (a.byte ∷ []) a.len 1 refl (length-set r a.len a.byte) (omega arith)
    (rw add-one (take-suc-set r a.len a.byte c.if-len-room.true))

pub returns : goal.returns
returns c = let a = c.args in full (a.room.now) (a.room.now) (a.byte ∷ []) a.len 1 refl refl (omega arith)
