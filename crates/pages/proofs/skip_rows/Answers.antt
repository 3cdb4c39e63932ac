use Rattle.std.proofs.Common.{rules, ◌^◌}
use Rattle.pages.proofs.Names.{◌∙◌, ◌-◌, ◌<◌, length, sym, ap, eqb, arith, bytes_of, feeds}
use Rattle.base.proofs.Counting.{few_counted}
use Rattle.pages.proofs.Rows.{feeds_counted, pass_block, bytes-within}
use Rattle.pages.proofs.skip_rows.Goals as goal

pub loop-block-preserved : goal.loop-block-preserved
loop-block-preserved c =
    let l = c.loop-block in
    let rest = l.rest.now in
    let cut = c.in-Some.ensures.cases in
    let n = c.from-n.result in
    let block = c.in-Some.block.now in
    let all = few_counted (λ b. eqb b 0x0A) block (search rules) in
    let some = c.few.ensures.number (λ b. eqb b 0x0A) record { each = λ x r h p. p } ∙ all ∙ sym (feeds_counted block) in
    let passed = pass_block rest 128 l.due n (omega (arith, cut.2)) (c.from-n.ensures ∙ some ∙ ap feeds cut.0) c.if-due-n.false in
    (omega (arith, l.invariant.0, cut.2), omega (arith, l.invariant.0, l.invariant.1, cut.2, passed, ap (bytes_of (l.due - n)) cut.1))

pub overflow_add-result : goal.overflow_add-result
overflow_add-result c =
    let small : length c.args.s.now < 2 ^ 64 = search rules in
    let l = c.loop-block in
    omega (arith, small, c.step_rows.ensures, bytes-within l.rest.now l.due, l.invariant.0)
