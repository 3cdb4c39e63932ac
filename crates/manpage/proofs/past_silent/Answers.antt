use Rattle.manpage.proofs.Names.{arith, rules, ◌<◌, ◌^◌, length}
use Rattle.manpage.proofs.Walking.{alike_bare}
use Rattle.manpage.proofs.past_silent.Goals as goal

pub overflow_add-at : goal.overflow_add-at
overflow_add-at c =
    let small : length c.args.document.now < 2 ^ 64 = search rules in
    omega (arith, (alike_bare _ _ _ _ c.bare_at.ensures (c.is_silent_number.ensures c.loop-at-test.true) c.loop-at.invariant).0)

pub loop-at-smaller : goal.loop-at-smaller
loop-at-smaller c =
    omega (arith, (alike_bare _ _ _ _ c.bare_at.ensures (c.is_silent_number.ensures c.loop-at-test.true) c.loop-at.invariant).0)

pub loop-at-preserved : goal.loop-at-preserved
loop-at-preserved c =
    let on = alike_bare _ _ _ _ c.bare_at.ensures (c.is_silent_number.ensures c.loop-at-test.true) c.loop-at.invariant in
    (on.1, on.2)
