use Rattle.document.proofs.Names.{sym, ap, ◌∙◌, ◌+◌, ◌≤◌, arith, length, index, gives}
use Rattle.document.proofs.Held.{held_length, held_push, held_count}
use Rattle.document.proofs.Opening.{opens-deep, opens-more}
use Rattle.document.proofs.open_block.Goals as goal

pub returns-then-depth-ge-MAX_OPEN-clause-counted : goal.returns-then-depth-ge-MAX_OPEN-clause-counted
returns-then-depth-ge-MAX_OPEN-clause-counted c =
    let a = c.args in
    sym (opens-deep _ _ _ (omega (arith, held_count a.blocks.now a.depth, c.told-blocks, c.if-depth-ge-MAX_OPEN.true)))

pub returns-clause-counted : goal.returns-clause-counted
returns-clause-counted c =
    let a = c.args in
    let low : a.depth ≤ length a.blocks.now = omega (arith, c.if-depth-ge-MAX_OPEN.false, c.told-blocks) in
    let n = held_length a.blocks.now a.depth low in
    let push = held_push a.blocks.now a.depth low a.b (omega (arith, c.if-depth-ge-MAX_OPEN.false, c.told-blocks)) in
    let small : a.depth + 1 ≤ 32 = omega (arith, c.if-depth-ge-MAX_OPEN.false) in
    (small, sym (ap gives push ∙ opens-more _ (index a.b) a.at (omega (arith, n, c.if-depth-ge-MAX_OPEN.false))))
