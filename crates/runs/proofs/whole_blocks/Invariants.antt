use Rattle.runs.proofs.Names.{◌-◌, length, among, Reached}
use Rattle.runs.proofs.whole_blocks.Given as goal

-- Invariant: the run goes on at least up to i.
-- What falls: the bytes after i.

abbrev pub invariant-loop-i : goal.invariant-loop-i
invariant-loop-i l = Reached (among l.a l.b l.c l.d) l.s l.at l.i

abbrev pub decreases-loop-i : goal.decreases-loop-i
decreases-loop-i l = length l.s - l.i
