use Rattle.records.specs.Listed.{left}
use Rattle.merge_items.proofs.Finding.{Open}
use Rattle.merge_items.proofs.end_of.Given as goal

-- The block ends, by the records that are left and the blocks open there, where it ends by all of them.
-- The records that are left fall.
abbrev pub invariant-loop-r : goal.invariant-loop-r
invariant-loop-r l = Open l.document l.from l.depth (left l.r-iterator)
