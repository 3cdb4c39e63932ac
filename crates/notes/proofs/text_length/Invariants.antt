use Rattle.notes.proofs.Names.{◌-◌, length}
use Rattle.notes.proofs.Scans.{AtEnd}
use Rattle.notes.proofs.text_length.Given as goal

-- At len a line ends, and what stands up to there, and what is left there of the text, is the text.
-- The bytes behind it fall.

abbrev pub invariant-loop-len : goal.invariant-loop-len
invariant-loop-len l = AtEnd l.s l.one l.len

abbrev pub decreases-loop-len : goal.decreases-loop-len
decreases-loop-len l = length l.s - l.len
