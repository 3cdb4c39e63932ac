use Rattle.joined.proofs.Names.{ap, ◌∙◌, ℕ, ◌+◌, arith}
use Rattle.joined_check.specs.Listed.{left}
use Rattle.joined.proofs.Placing.{finding_start, finding_end, finding_here, finding_next}
use Rattle.joined.proofs.byte_in.Goals as goal

pub loop-s-init : goal.loop-s-init
loop-s-init c = finding_start c.args.joined.now c.args.p (ap left c.into_iter-s-iterator.ensures.into_iter_gives ∙ c.of-s-items.ensures.0)

pub returns-then-p-next : goal.returns-then-p-next
returns-then-p-next c =
    ap (λ (n : ℕ). c.loop-s.from + n) c.saturating_sub.ensures
    ∙ finding_here c.loop-s.invariant c.in-Some.ensures.steps.0 c.size-size.ensures.0 (rw c.saturating_add-next.ensures at c.if-p-next.true)

pub loop-s-preserved : goal.loop-s-preserved
loop-s-preserved c =
    rw c.saturating_add-next.ensures
    (finding_next c.loop-s.invariant c.in-Some.ensures.steps.0 c.size-size.ensures.0 (rw c.saturating_add-next.ensures at c.if-p-next.false) (omega arith))

pub returns : goal.returns
returns c = finding_end c.loop-s.invariant c.in-None.ensures.steps.0.0
