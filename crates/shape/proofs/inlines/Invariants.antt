use Rattle.records.specs.Listed.{left}
use Rattle.shape.proofs.Names.{length}
use Rattle.shape.specs.InnerSteps as want
use Rattle.shape.proofs.Loops.{Before}
use Rattle.shape.proofs.inlines.Given as goal

-- Invariant: what is out of place from the start on is what is out of place in the records that are left, in the blocks that are open.
-- What falls: the number of records left.
abbrev pub invariant-loop-r : goal.invariant-loop-r
invariant-loop-r l = Before (left l.fn.records) want.inlines want.inlines l.inner (left l.records)

abbrev pub decreases-loop-r : goal.decreases-loop-r
decreases-loop-r l = length (left l.records)
