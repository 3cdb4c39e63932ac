use Rattle.manpage.proofs.Names.{◌-◌, length, roff_of}
use Rattle.manpage.proofs.Walking.{On}
use Rattle.manpage.proofs.walk.Given as goal

-- What was written, and the rules run over the records from `at` on, give the whole text; what is captured is the text of the records from the place
-- in `captured` up to `at`.
-- What falls: the bytes of the document after `at`.

abbrev pub invariant-loop-at : goal.invariant-loop-at
invariant-loop-at l = On (roff_of l.fn.m) l.document l.m l.captured l.at

abbrev pub decreases-loop-at : goal.decreases-loop-at
decreases-loop-at l = length l.document - l.at
