use Rattle.records.specs.Listed.{left}
use Rattle.room.specs.Lent.{text_of}
use Rattle.joined.proofs.Writing.{Heading}
use Rattle.joined.proofs.put_heads.Given as goal

-- Invariant: the first bytes of the records that are left are left to write.
-- What falls: the records that are left, which the iterator counts.
abbrev pub invariant-loop-r : goal.invariant-loop-r
invariant-loop-r l = Heading l.document (text_of l.initial.t) (left l.r-iterator) (text_of l.t)
