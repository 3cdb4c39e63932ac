use Rattle.room.specs.Lent.{text_of}
use Rattle.joined_check.specs.Listed.{left}
use Rattle.joined.proofs.Writing.{Sharing}
use Rattle.joined.proofs.put_records.Given as goal

-- Invariant: some text is left for the records that are left, which are left to write with their shares of it.
-- What falls: the records that are left, which the iterator counts.
abbrev pub invariant-loop-s : goal.invariant-loop-s
invariant-loop-s l = Sharing l.joined (text_of l.initial.t) l.text (left l.s-iterator) (text_of l.t)
