use Rattle.records.specs.Listed.{left}
use Rattle.draft.proofs.Holding.{Built}
use Rattle.draft.proofs.found.Given as goal

-- The draft is that of the records so far, and nothing is refused from there on.
-- The records that are left fall.
abbrev pub invariant-loop-r : goal.invariant-loop-r
invariant-loop-r l = Built l.document l.d (left l.r-iterator)
