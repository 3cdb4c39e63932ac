use Rattle.printing.proofs.Names.{◌-◌, length}
use Rattle.printing.proofs.Laws.{Reached}
use Rattle.printing.proofs.chars.Given as goal

-- Whole characters stand from the start to here, and so many of them print.
-- The bytes that are left fall.

abbrev pub invariant-loop-i : goal.invariant-loop-i
invariant-loop-i l = Reached l.s l.i l.n

abbrev pub decreases-loop-i : goal.decreases-loop-i
decreases-loop-i l = length l.s - l.i
