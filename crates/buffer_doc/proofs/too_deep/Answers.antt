use Rattle.buffer_doc.proofs.Nesting.{on_next, on_deep, on-end}
use Rattle.buffer_doc.proofs.too_deep.Goals as goal

pub returns-then-count-gt-MAX_OPEN : goal.returns-then-count-gt-MAX_OPEN
returns-then-count-gt-MAX_OPEN c =
    let i = c.loop-r.invariant in on_deep i.1 c.in-Some.ensures.steps c.counted-count.ensures i.0 c.if-count-gt-MAX_OPEN.true

pub loop-r-preserved : goal.loop-r-preserved
loop-r-preserved c =
    let t = c.if-count-gt-MAX_OPEN.false in (t, on_next c.loop-r.invariant.1 c.in-Some.ensures.steps c.counted-count.ensures t)

pub returns : goal.returns
returns c = on-end c.loop-r.invariant.1 c.in-None.ensures.steps.0
