use Rattle.buffer.proofs.Names.{◌≡◌, sym, ◌∙◌, [], ◌+◌, arith, length, stored}
use Rattle.refusal.specs.declared.Refusal.TheVariants as refusal
use Rattle.base.proofs.Pasting.{overwritten_fits}
use Rattle.buffer.proofs.Pasting.{length-stored}
use Rattle.buffer.proofs.Answering.{follows-refused, follows-length, fit_in, fit-out, room_there}
use Rattle.buffer.proofs.put_block.Goals as goal

pub returns-then-not-has_room-clause-does : goal.returns-then-not-has_room-clause-does
returns-then-not-has_room-clause-does c =
    let a = c.args in λ h.
    follows-refused (a.room.now) refusal.NoRoom
    (fit-out (a.room.now) (stored a.kind []) a.len (a.len + 6) h (omega (arith, length-stored a.kind []))
    (sym c.has_room.ensures ∙ c.if-not-has_room.true))

pub returns-clause-does : goal.returns-clause-does
returns-clause-does c =
    let a = c.args in
    let room = a.room.now in
    let e = c.has_room.ensures in
    let n : a.len + 6 ≡ a.len + length (stored a.kind []) = omega (arith, length-stored a.kind []) in
    let t = c.if-not-has_room.false in λ h.
    follows-length room _ (stored a.kind []) a.len (a.len + 6) h (fit_in room (stored a.kind []) a.len (a.len + 6) h n (sym e ∙ t)) n
    (c.set_block.ensures ∙ overwritten_fits room a.len (stored a.kind []) (omega (arith, n, room_there room (a.len + 6) e t)))
