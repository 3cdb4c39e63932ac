use Rattle.base.proofs.Names.{◌≡◌, sym, ap, ◌∙◌, ◌+◌, List, ℕ, arith, add-one, get_or, length, set, paste, paste-suc}
use Rattle.base.proofs.Pasting.{paste-whole, overwritten-not}
use Rattle.base.proofs.copy_from_slice.Goals.{else-at-room-via-then-at-room+else-bytes-room, else-at-room-via-else-at-room}
use Rattle.base.proofs.copy_from_slice.Goals as goal

pub loop-i-preserved : goal.loop-i-preserved
loop-i-preserved c =
    let l = c.loop-i in
    let a = c.args in
    ap (λ (t : List ℕ). set t (a.at + l.i) (get_or (a.bytes.now) l.i 0)) l.invariant
    ∙ paste-suc (a.room.now) a.at (a.bytes.now) l.i 0 (omega arith) c.loop-i-test.true
    ∙ ap (λ (k : ℕ). paste (a.room.now) a.at (a.bytes.now) k) (sym (add-one l.i))

pub returns-after-loop-i : goal.returns-after-loop-i
returns-after-loop-i c =
    let l = c.loop-i in
    let a = c.args in
    let e : l.i ≡ length a.bytes.now = omega arith in
    l.invariant ∙ ap (λ (k : ℕ). paste (a.room.now) a.at (a.bytes.now) k) e ∙ paste-whole a.room.now a.at a.bytes.now (omega arith)

pub returns-else-at-room : goal.returns-else-at-room
returns-else-at-room c =
    let a = c.args in
    sym (overwritten-not a.room.now a.at a.bytes.now (elim c.else-at-room.branch [
      | else-at-room-via-then-at-room+else-bytes-room w ↦ omega arith
      | else-at-room-via-else-at-room w ↦ omega arith
    ]))
