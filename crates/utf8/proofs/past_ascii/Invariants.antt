use Rattle.utf8.proofs.Names.{◌-◌, length, Ascii}
use Rattle.utf8.proofs.past_ascii.Given as goal

-- The invariant: the bytes before i are ASCII.
-- What falls: the bytes from i on.
abbrev pub invariant-loop-i : goal.invariant-loop-i
invariant-loop-i l = Ascii l.s l.i

abbrev pub decreases-loop-i : goal.decreases-loop-i
decreases-loop-i l = length l.s - l.i
