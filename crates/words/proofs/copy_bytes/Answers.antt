use Rattle.words.proofs.Names.{◌≤◌, refl, arith, rules, length}
use Rattle.words.proofs.Copying.{narrow, copying_next}
use Rattle.words.proofs.copy_bytes.Goals as goal

pub overflow_add-width : goal.overflow_add-width
overflow_add-width c =
    let l = c.loop-len in
    let f : l.width ≤ length c.args.text.now = omega (arith, narrow c.args.text.now l.len, l.invariant.counts, l.invariant.near) in
    search rules

pub loop-len-preserved : goal.loop-len-preserved
loop-len-preserved c =
    let l = c.loop-len in
    copying_next c.args.text.now c.args.free.now l.free l.len l.width l.invariant _ c.loop-len-test.true c.requires c.if-x-eq10.false
    c.starts_character.ensures c.from-width.ensures refl
