use Rattle.base.proofs.Names.{◌∙◌, ap, arith, length, take}
use Rattle.std.proofs.lemmas.List.{length-take}
use Rattle.base.proofs.few.Goals as goal

pub overflow_add-n : goal.overflow_add-n
overflow_add-n g c =
    let s = c.args.s.now in
    let short = ap length {y = take 255 s} c.get-first.ensures ∙ length-take 255 s in
    omega (arith, c.loop-b.invariant.0, c.loop-b-test.true, short)

pub returns-clause-most : goal.returns-clause-most
returns-clause-most g c =
    let s = c.args.s.now in
    let short = ap length {y = take 255 s} c.get-first.ensures ∙ length-take 255 s in
    omega (arith, c.loop-b.invariant.0, short)
