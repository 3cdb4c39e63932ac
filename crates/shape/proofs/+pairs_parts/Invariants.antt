-- The cycle of calls {pairs, parts}. The measure of both is the number of records left, which falls with the start record of each list, term and body
-- that is entered; the invariant of both loops is `Before`: what is out of place from the start on is what is out of place from here on.
use Rattle.records.specs.Listed.{left}
use Rattle.shape.proofs.Names.{length}
use Rattle.shape.specs.InnerSteps as want
use Rattle.shape.proofs.Loops.{Before}
use Rattle.shape.proofs.+pairs_parts.Given as goal

abbrev pub decreases-pairs : goal.decreases-pairs
decreases-pairs l = length (left l.records.now)

abbrev pub decreases-parts : goal.decreases-parts
decreases-parts l = length (left l.records.now)

-- Invariant: what is out of place from the list's start on is what is out of place in the records that are left, before a pair.
-- What falls: the number of records left.
abbrev pub invariant-pairs-loop-term : goal.invariant-pairs-loop-term
invariant-pairs-loop-term l = Before (left l.fn.records) want.pairs want.pairs 0 (left l.records)

abbrev pub decreases-pairs-loop-term : goal.decreases-pairs-loop-term
decreases-pairs-loop-term l = length (left l.records)

-- Invariant: what is out of place from the start on is what is out of place in the records that are left, in the blocks that are open.
-- What falls: the number of records left.
abbrev pub invariant-parts-loop-r : goal.invariant-parts-loop-r
invariant-parts-loop-r l = Before (left l.fn.records) want.parts want.parts l.inner (left l.records)

abbrev pub decreases-parts-loop-r : goal.decreases-parts-loop-r
decreases-parts-loop-r l = length (left l.records)
