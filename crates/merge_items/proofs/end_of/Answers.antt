use Rattle.std.specs.Prelude.{◌<◌, ◌^◌}
use Rattle.merge_items.proofs.Names.{length, rules, sym, ◌∙◌, arith}
use Rattle.merge_items.proofs.Finding.{open_inside, open_here, open_next, open_end}
use Rattle.merge_items.proofs.end_of.Goals as goal

pub open_after-requires : goal.open_after-requires
open_after-requires c =
    let small : length c.args.document.now < 2 ^ 64 = search rules in
    omega (arith, small, (open_inside c.loop-r.invariant c.in-Some.ensures.steps).0)

pub loop-r-preserved : goal.loop-r-preserved
loop-r-preserved c = open_next c.loop-r.invariant c.in-Some.ensures.steps (sym c.open_after.ensures ∙ c.in-Some-open_after.is)

pub returns-in_default : goal.returns-in_default
returns-in_default c =
    let e = c.in-Some.ensures.steps in
    (open_here c.loop-r.invariant e (sym c.open_after.ensures ∙ c.in_default.is), (open_inside c.loop-r.invariant e).1)

pub returns : goal.returns
returns c = sym (open_end c.loop-r.invariant c.in-None.ensures.steps.0)
