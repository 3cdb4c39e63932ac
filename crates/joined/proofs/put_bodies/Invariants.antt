use Rattle.joined.proofs.Names.{joined, document_text}
use Rattle.records.specs.Listed.{left}
use Rattle.room.specs.Lent.{text_of}
use Rattle.joined.proofs.Writing.{Putting}
use Rattle.joined.proofs.put_bodies.Given as goal

-- Invariant: the bodies of the records that are left are left to write.
-- What falls: the records that are left, which the iterator counts.
abbrev pub invariant-loop-r : goal.invariant-loop-r
invariant-loop-r l = Putting (document_text l.document) (text_of l.initial.t) (joined (left l.r-iterator)) (text_of l.t)
