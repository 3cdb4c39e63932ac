use Rattle.utf8.proofs.Names.{◌≤◌, ◌-◌, length, AsciiPart}
use Rattle.utf8.proofs.past_blocks.Given as goal

-- The invariant: the bytes up to i are ASCII.
-- What falls: the bytes from i on.
abbrev pub invariant-loop-i : goal.invariant-loop-i
invariant-loop-i l = (l.i ≤ length l.s) × AsciiPart l.s l.from l.i

abbrev pub decreases-loop-i : goal.decreases-loop-i
decreases-loop-i l = length l.s - l.i
