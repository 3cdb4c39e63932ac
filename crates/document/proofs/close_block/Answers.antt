use Rattle.document.proofs.Names.{arith}
use Rattle.document.proofs.Held.{held_all}
use Rattle.document.proofs.close_block.Goals as goal

pub returns-clause-counted : goal.returns-clause-counted
returns-clause-counted c =
    let a = c.args in
    rw (← held_all a.blocks.now a.depth c.min.result (omega (arith, c.min.ensures, c.told-blocks))) c.close_top.ensures.counted

pub returns-clause-fewer : goal.returns-clause-fewer
returns-clause-fewer c = rw (← c.min.ensures) c.close_top.ensures.fewer
