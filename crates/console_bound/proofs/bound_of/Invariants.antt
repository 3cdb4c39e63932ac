use Rattle.records.specs.Listed.{left}
use Rattle.console_bound.proofs.Counts.{Counted}
use Rattle.console_bound.proofs.bound_of.Given as goal

-- So many bytes of text and so many TermRef starts and ends stand before the records that are left, and the others in these.
-- The records that are left fall.
abbrev pub invariant-loop-r : goal.invariant-loop-r
invariant-loop-r l = Counted l.document (left l.r-iterator) l.bytes l.refs
