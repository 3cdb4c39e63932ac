use Rattle.utf8.proofs.Names.{◌+◌, ◌-◌, ◌∙◌, sym, arith}
use Rattle.utf8.proofs.Laws.{ascii_told}
use Rattle.utf8.proofs.Neighbours.{ascii_more}
use Rattle.utf8.proofs.past_ascii.Goals as goal

pub loop-i-preserved : goal.loop-i-preserved
loop-i-preserved c =
    let a = c.args in
    let i = c.loop-i.i in
    ascii_more a.s.now i a.w (i + a.w - i) c.loop-i.invariant (omega arith) (omega arith)
    (sym (ascii_told _ _ c.is_ascii.ensures.cases) ∙ c.if-is_ascii.true)
