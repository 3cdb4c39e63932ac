use Rattle.notes.proofs.Names.{◌-◌, length}
use Rattle.notes.proofs.Scans.{Passed}
use Rattle.notes.proofs.long_line_length.Given as goal

-- No line end stands among the first len bytes.
-- The bytes behind them fall.

abbrev pub invariant-loop-block : goal.invariant-loop-block
invariant-loop-block l = Passed l.s l.len

abbrev pub decreases-loop-block : goal.decreases-loop-block
decreases-loop-block l = length l.s - l.len
