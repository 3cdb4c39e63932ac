use Rattle.roff_escape.proofs.Names.{◌-◌, take, text_of, Copies}
use Rattle.roff_escape.proofs.escape.copy_plain.Given as goal

-- Invariant: the plain bytes from `at` up to i went out.
-- What falls: the bytes from i up to `stop`.

abbrev pub invariant-loop-i : goal.invariant-loop-i
invariant-loop-i l = Copies (take l.stop l.bytes) l.at (text_of l.initial.t) (text_of l.t) l.i

abbrev pub decreases-loop-i : goal.decreases-loop-i
decreases-loop-i l = l.stop - l.i
