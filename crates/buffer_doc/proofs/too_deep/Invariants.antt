use Rattle.buffer_doc.proofs.Names.{◌≤◌}
use Rattle.records.specs.Listed.{left}
use Rattle.buffer_doc.proofs.Nesting.{On}
use Rattle.buffer_doc.proofs.too_deep.Given as goal

-- So many blocks are open where the records that are left begin, at most 32, and those records give what all from `from` on give.
-- The records that are left fall.
abbrev pub invariant-loop-r : goal.invariant-loop-r
invariant-loop-r l = (l.count ≤ 32) × On l.document l.from l.depth l.count (left l.r-iterator)
