use Rattle.records.specs.Listed.{left}
use Rattle.figures.proofs.Counting.{Counting}
use Rattle.figures.proofs.count_all.Given as goal

-- The figures so far, with those of the documents that are left, are those of the whole bundle; and they are small enough to be added to.
-- The records that are left fall.
abbrev pub invariant-loop-r : goal.invariant-loop-r
invariant-loop-r l = Counting l.bundle l.f (left l.r-iterator)
