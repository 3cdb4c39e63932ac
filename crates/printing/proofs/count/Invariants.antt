use Rattle.printing.proofs.Names.{length}
use Rattle.printing.proofs.Laws.{Left}
use Rattle.printing.proofs.count.Given as goal

-- The invariant: what prints in the text is what was counted and what prints in the rest.
-- What falls: the bytes of the rest.
abbrev pub invariant-loop-rest : goal.invariant-loop-rest
invariant-loop-rest l = Left l.s l.rest l.n

abbrev pub decreases-loop-rest : goal.decreases-loop-rest
decreases-loop-rest l = length l.rest
