use Rattle.console_bound.proofs.Names.{ap, length, arith}
use Rattle.console_bound.proofs.Counts.{counted_on, counted_all}
use Rattle.console_bound.proofs.bound_of.Goals as goal

pub overflow_add-refs : goal.overflow_add-refs
overflow_add-refs c =
    let few = (counted_on c.loop-r.invariant c.in-Some.ensures.steps c.from-refs.ensures c.is_of.ensures).few in
    omega (arith, c.bytes.ensures.short, ap length c.bytes.ensures.same, few)

pub loop-r-preserved : goal.loop-r-preserved
loop-r-preserved c = counted_on c.loop-r.invariant c.in-Some.ensures.steps c.from-refs.ensures c.is_of.ensures

pub returns : goal.returns
returns c = counted_all c.loop-r.invariant c.in-None.ensures.steps.0
