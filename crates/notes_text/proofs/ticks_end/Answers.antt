use Rattle.notes_text.proofs.Names.{sym, ◌∙◌}
use Rattle.notes_text.proofs.Ticks.{free_end, free_block}
use Rattle.notes_text.proofs.ticks_end.Goals as goal

pub loop-block-init : goal.loop-block-init
loop-block-init c = free_end c.args.s.now

pub loop-block-preserved : goal.loop-block-preserved
loop-block-preserved c =
    let b = c.in-Some.ensures.cases in
    free_block _ _ _ c.loop-block.invariant b.0 b.1.same (sym c.ticked.ensures ∙ c.if-ticked.false)
