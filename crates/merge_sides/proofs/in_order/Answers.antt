use Rattle.merge_sides.proofs.Names.{refl, sym, ◌∙◌, arith, reads_first, reads_at, goes_on, is_over}
use Rattle.merge_sides.proofs.Sides.{climbing_0, climbed}
use Rattle.merge_sides.proofs.Sides.{climbed_one, climbing_taken, climbs_not, climbing_next, less-lt}
use Rattle.merge_sides.proofs.in_order.Goals as goal

pub loop-here-init : goal.loop-here-init
loop-here-init c =
    let a = c.requires in (
      climbing_0 a.listed c.of-here.ensures.at (reads_first a.short c.told-key c.of-here.ensures),
      reads_first a.short c.told-other c.of-after.ensures,
    )

pub returns-then-is_done : goal.returns-then-is_done
returns-then-is_done c =
    let i = c.loop-here.invariant in
    let r = reads_at c.requires.short i.1 c.read.ensures in
    climbed_one i.0 (goes_on i.0.reads c.loop-here-test.ensures refl) (rw (← c.read.ensures.at) (is_over r c.if-is_done.ensures refl))

pub returns-then-not-is_lt : goal.returns-then-not-is_lt
returns-then-not-is_lt c =
    let i = c.loop-here.invariant in
    let r = reads_at c.requires.short i.1 c.read.ensures in
    climbs_not i.0 _ (goes_on i.0.reads c.loop-here-test.ensures refl) (goes_on r c.if-is_done.ensures refl) c.read.ensures.at r _
    (rw (← c.term.ensures, ← c.term-in-loop-here.ensures) c.compare-order.ensures) (less-lt _ ∙ sym c.is_lt.ensures ∙ c.if-not-is_lt.true)

pub loop-here-smaller : goal.loop-here-smaller
loop-here-smaller c =
    let i = c.loop-here.invariant.0 in
    let t = climbing_taken i (goes_on i.reads c.loop-here-test.ensures refl) in
    rw c.swap.ensures.x_after (omega (arith, t.inside, t.on, c.read.ensures.at))

pub loop-here-preserved : goal.loop-here-preserved
loop-here-preserved c =
    let i = c.loop-here.invariant in
    let r = reads_at c.requires.short i.1 c.read.ensures in
    rw (c.swap.ensures.x_after, c.swap.ensures.y_after) (
      climbing_next i.0 _ (goes_on i.0.reads c.loop-here-test.ensures refl) (goes_on r c.if-is_done.ensures refl) c.read.ensures.at r _
          (rw (← c.term.ensures, ← c.term-in-loop-here.ensures) c.compare-order.ensures) (less-lt _ ∙ sym c.is_lt.ensures ∙ c.if-not-is_lt.false),
      i.0.reads,
    )

pub returns : goal.returns
returns c = let i = c.loop-here.invariant.0 in climbed i (is_over i.reads c.loop-here-test.ensures refl)
