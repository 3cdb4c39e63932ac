use Rattle.words.proofs.Names.{◌≤◌, ◌∙◌, arith, rules, length}
use Rattle.words.proofs.Copying.{narrow, copying_block, plain_block}
use Rattle.words.proofs.copy_blocks.Goals as goal

pub overflow_add-width : goal.overflow_add-width
overflow_add-width c =
    let l = c.loop-block in
    let f : l.width ≤ length c.args.text.now = omega (arith, narrow c.args.text.now l.len, l.invariant.counts, l.invariant.near) in
    search rules

pub loop-block-preserved : goal.loop-block-preserved
loop-block-preserved c =
    let l = c.loop-block in
    let b = c.in-Some.ensures.cases in
    copying_block c.args.text.now c.args.free.now l.free l.len l.width l.invariant c.requires _ c.copy_block.auto.free c.in-Some.block.now _ b.enough
    b.same (c.has_line_end.ensures.none c.if-has_line_end.false) (c.from-width.ensures ∙ c.count.ensures) c.copy_block.ensures

pub returns-then-has_line_end-clause-last : goal.returns-then-has_line_end-clause-last
returns-then-has_line_end-clause-last c = λ h plain.
    c.has_line_end.ensures.one c.if-has_line_end.true (plain_block c.args.text.now c.in-Some.block.now c.loop-block.len c.in-Some.ensures.cases.same plain)
