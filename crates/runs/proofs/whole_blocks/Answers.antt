use Rattle.runs.proofs.Names.{sym, ◌∙◌, arith}
use Rattle.runs.proofs.Runs.{reached_block}
use Rattle.runs.proofs.whole_blocks.Goals as goal

pub loop-i-preserved : goal.loop-i-preserved
loop-i-preserved c =
    let l = c.loop-i in
    reached_block _ _ _ l.invariant 16 (omega (arith, l.invariant.within, c.loop-i-test.true)) (sym c.marked.ensures ∙ c.if-not-marked.true)
