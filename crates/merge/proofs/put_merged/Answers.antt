use Rattle.merge.proofs.Names.{refl, sym, ap, ◌∙◌, ◌≤◌, List, ℕ, arith, length, length-take-le, drop, reads_first, reads_at, goes_on, is_over}
use Rattle.merge_sides.proofs.Sides.{list_length}
use Rattle.merge.proofs.Merging.{going_0, take-first, take_second, wrote-item, going_less, going_same, going_more, ended-first, ended_second}
use Rattle.merge.proofs.put_merged.Goals as goal

pub slice_bounds-put_all-end : goal.slice_bounds-put_all-end
slice_bounds-put_all-end c =
    let p = c.requires in
    let h : 6 ≤ length c.args.first.now = omega (arith, list_length _ _ p.first) in
    sym (length-take-le 6 c.args.first.now h)

pub loop-a-init : goal.loop-a-init
loop-a-init c =
    let p = c.requires in
    going_0 p.first p.second c.of-a.ensures.at c.of-b.ensures.at (reads_first p.short c.told-key c.of-a.ensures)
    (reads_first p.also-short c.told-other c.of-b.ensures) c.put_all.ensures

pub returns-then-is_done : goal.returns-then-is_done
returns-then-is_done c =
    let i = c.loop-a.invariant in
    ended_second i _ _ c.put_all-then-is_done.ensures (is_over i.reads_too c.if-is_done.ensures refl)
    (c.rest.ensures ∙ ap (λ (d : List ℕ). drop c.loop-a.a.at d) i.reads.document)

pub loop-a-smaller-in-Less : goal.loop-a-smaller-in-Less
loop-a-smaller-in-Less c =
    let i = c.loop-a.invariant in
    let t = take-first i (goes_on i.reads c.loop-a-test.ensures refl) in
    omega (arith, t.inside, t.on, c.advance.ensures.at)

pub loop-a-preserved-in-Less : goal.loop-a-preserved-in-Less
loop-a-preserved-in-Less c =
    let i = c.loop-a.invariant in
    going_less i _ (goes_on i.reads c.loop-a-test.ensures refl) (goes_on i.reads_too c.if-is_done.ensures refl) _
    (rw (← c.term.ensures, ← c.term-in-loop-a.ensures) c.compare-order.ensures) c.in-Less.is
    (wrote-item _ i.reads c.item.ensures c.put_all-in-Less.ensures) _ c.advance.ensures.at (reads_at c.requires.short i.reads c.advance.ensures)

pub loop-a-smaller-in-Equal : goal.loop-a-smaller-in-Equal
loop-a-smaller-in-Equal c =
    let i = c.loop-a.invariant in
    let t = take-first i (goes_on i.reads c.loop-a-test.ensures refl) in
    let u = take_second i (goes_on i.reads_too c.if-is_done.ensures refl) in
    omega (arith, t.inside, t.on, u.inside, u.on, c.advance-in-Equal.ensures.at, c.advance-in-Equal-2.ensures.at)

pub loop-a-preserved-in-Equal : goal.loop-a-preserved-in-Equal
loop-a-preserved-in-Equal c =
    let i = c.loop-a.invariant in
    going_same i _ (goes_on i.reads c.loop-a-test.ensures refl) (goes_on i.reads_too c.if-is_done.ensures refl) _
    (rw (← c.term.ensures, ← c.term-in-loop-a.ensures) c.compare-order.ensures) c.in-Equal.is
    (wrote-item _ i.reads c.item-in-Equal.ensures c.put_all-in-Equal.ensures) _ _ c.advance-in-Equal.ensures.at c.advance-in-Equal-2.ensures.at
    (reads_at c.requires.short i.reads c.advance-in-Equal.ensures) (reads_at c.requires.also-short i.reads_too c.advance-in-Equal-2.ensures)

pub loop-a-smaller : goal.loop-a-smaller
loop-a-smaller c =
    let i = c.loop-a.invariant in
    let u = take_second i (goes_on i.reads_too c.if-is_done.ensures refl) in
    omega (arith, u.inside, u.on, c.advance-in-Greater.ensures.at)

pub loop-a-preserved : goal.loop-a-preserved
loop-a-preserved c =
    let i = c.loop-a.invariant in
    going_more i _ (goes_on i.reads c.loop-a-test.ensures refl) (goes_on i.reads_too c.if-is_done.ensures refl) _
    (rw (← c.term.ensures, ← c.term-in-loop-a.ensures) c.compare-order.ensures) c.in-Greater.is
    (wrote-item _ i.reads_too c.item-in-Greater.ensures c.put_all-in-Greater.ensures) _ c.advance-in-Greater.ensures.at
    (reads_at c.requires.also-short i.reads_too c.advance-in-Greater.ensures)

pub returns : goal.returns
returns c =
    let i = c.loop-a.invariant in
    ended-first i _ _ c.put_all-2.ensures (is_over i.reads c.loop-a-test.ensures refl)
    (c.rest-2.ensures ∙ ap (λ (d : List ℕ). drop c.loop-a.b.at d) i.reads_too.document)
