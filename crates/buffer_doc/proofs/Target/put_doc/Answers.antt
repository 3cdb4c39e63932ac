use Rattle.buffer_doc.proofs.Names.{◌≡◌, sym, ◌∙◌, subst, [], ◌++◌, ℕ, ◌+◌, arith, length, length-append, reads}
use Rattle.buffer_doc.proofs.Names.{open_blocks, start, end, around, check-gives, gives, refused, room_there}
use Rattle.base.proofs.Pasting.{overwritten_fits}
use native.Mathlib.Nat.{add-zero}
use Rattle.records.specs.declared.Block.TheVariants as block
use Rattle.buffer_doc.proofs.Adding.{adds-deep, adds_full, adds_same, adds-written, nests_deep, nests_given, copied_then}
use Rattle.buffer_doc.proofs.Adding.{length-start, length-end, length-around}
use Rattle.buffer_doc.proofs.Target.put_doc.Goals as goal

pub too_deep-requires : goal.too_deep-requires
unfolding open_blocks
too_deep-requires c = ((check-gives _ [] c.bytes-added.ensures.accepted).1, omega arith, omega arith)

pub returns-in-Some-clause-adds : goal.returns-in-Some-clause-adds
returns-in-Some-clause-adds c =
    let added = c.bytes-added.result.now in
    let v = c.args.self.now in
    adds_same c.bytes-added.ensures.same
    (adds-deep v.ready added v.open (v.len + 6 + c.in-Some.deep)
    (λ stack e. subst (λ (p : ℕ). reads p 0 stack added ≡ refused 7 (v.len + 6 + c.in-Some.deep)) (add-zero (v.len + 6))
    (nests_deep c.too_deep.ensures (v.len + 6) stack e c.in-Some.is)))

pub returns-then-not-has_room-clause-adds : goal.returns-then-not-has_room-clause-adds
returns-then-not-has_room-clause-adds c =
    let added = c.bytes-added.result.now in
    let v = c.args.self.now in
    adds_same c.bytes-added.ensures.same
    (adds_full v.ready added v.open
    (λ stack e.
    subst (λ (p : ℕ). reads p 0 stack added ≡ gives stack) (add-zero (v.len + 6)) (nests_given c.too_deep.ensures (v.len + 6) stack e c.in_default.is))
    (v.len + 12 + length added) (omega (arith, length-around block.InlineBlock added)) (sym c.has_room.ensures ∙ c.if-not-has_room.true))

pub returns-clause-adds : goal.returns-clause-adds
unfolding start end around
returns-clause-adds c =
    let v = c.args.self.now in
    let room = v.room.now in
    let added = c.bytes-added.result.now in
    let b = start block.InlineBlock in
    let n : length b ≡ 6 = length-start block.InlineBlock in
    let m : length (end block.InlineBlock) ≡ 6 = length-end block.InlineBlock in
    let l : length (b ++ added) ≡ 6 + length added = omega (arith, length-append b added) in
    let e = c.has_room.ensures in
    let y = c.if-not-has_room.false in
    let h = room_there room (v.len + 12 + length added) e y in
    let mid = c.copy_from_slice.new.room in
    adds_same c.bytes-added.ensures.same
    (adds-written v.ready added v.open
    (λ stack e.
    subst (λ (p : ℕ). reads p 0 stack added ≡ gives stack) (add-zero (v.len + 6)) (nests_given c.too_deep.ensures (v.len + 6) stack e c.in_default.is))
    (v.len + 12 + length added) (omega (arith, length-around block.InlineBlock added)) _ (sym e ∙ y)
    (copied_then room mid _ v.len (v.len + 6 + length added) (b ++ added) (end block.InlineBlock) (omega (arith, h))
    (copied_then room c.set_block.new.room _ v.len (v.len + 6) b added (omega (arith, h))
    (rw c.start_kind.ensures at c.set_block.ensures ∙ overwritten_fits room v.len b (omega (arith, h))) (omega arith) c.copy_from_slice.ensures) (omega arith)
    (rw c.end_kind.ensures at c.set_block-2.ensures)))
