use Rattle.buffer.proofs.Names.{◌≡◌, sym, ap, ◌∙◌, ◌++◌, ◌+◌, ◌≤◌, arith, length, take, drop, stored, fit}
use Rattle.refusal.specs.declared.Refusal.TheVariants as refusal
use Rattle.buffer.proofs.Pasting.{longer-is, longer_ends, put-longer}
use Rattle.buffer.proofs.Answering.{follows-refused, follows-length, follows_same, fit_in, fit-out, room_there}
use Rattle.buffer.proofs.put_text.Goals as goal

pub returns-then-not-has_room-clause-does : goal.returns-then-not-has_room-clause-does
returns-then-not-has_room-clause-does c =
    let a = c.args in
    let room = a.room.now in
    let t = a.text.now in
    let to = c.max-to.result in λ p.
    follows_same (ap (fit room) (sym (longer-is room a.last a.len a.kind t p.0 p.1)))
    (follows-refused room refusal.NoRoom
    (fit-out room (stored a.kind (drop (a.last + 6) (take a.len room) ++ t)) a.last (to + length t) (omega (arith, p.0, p.1))
    (longer_ends room a.last a.len a.kind t p.0 p.1 to c.max-to.ensures) (sym c.has_room.ensures ∙ c.if-not-has_room.true)))

pub returns-clause-does : goal.returns-clause-does
returns-clause-does c =
    let a = c.args in
    let room = a.room.now in
    let t = a.text.now in
    let to = c.max-to.result in
    let m = c.max-to.ensures in
    let e = c.has_room.ensures in
    let there = c.if-not-has_room.false in
    let x = stored a.kind (drop (a.last + 6) (take a.len room) ++ t) in λ p.
    let n : to + length t ≡ a.last + length x = longer_ends room a.last a.len a.kind t p.0 p.1 to m in
    let i : a.last ≤ length room = omega (arith, p.0, p.1) in
    follows_same (ap (fit room) (sym (longer-is room a.last a.len a.kind t p.0 p.1)))
    (follows-length room _ x a.last (to + length t) i (fit_in room x a.last (to + length t) i n (sym e ∙ there)) n
    (put-longer room a.last a.len a.kind t p.0 p.1 to m _ _ (room_there room (to + length t) e there) c.set_head.ensures c.copy_from_slice.ensures))
