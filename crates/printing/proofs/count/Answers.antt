use Rattle.printing.proofs.Names.{◌∙◌, sym}
use borrow.Author.Tests.{eqb-true}
use Rattle.white.proofs.Counting.{counted_none}
use Rattle.printing.proofs.Laws.{left_done}
use Rattle.printing.proofs.count.Goals as goal

pub returns-in_default : goal.returns-in_default
returns-in_default c = counted_none (c.args.s.now) (c.loop-rest.invariant.text ∙ c.in_default.ensures)

pub returns : goal.returns
returns c = left_done c.args.s.now c.loop-rest.rest.now c.loop-rest.n c.loop-rest.invariant
    (eqb-true _ 0 (sym c.is_empty.ensures ∙ c.loop-rest-test.false))
