use Rattle.sample_lines.proofs.Names.{written}
use Rattle.room.specs.Lent.{text_of}
use Rattle.sample_lines.proofs.Writing.{Putting}
use Rattle.sample_lines.proofs.put_text.Given as goal

-- Invariant: the text that is left is left to write.
-- What falls: the text that is left, which the iterator counts.
abbrev pub invariant-loop-b : goal.invariant-loop-b
invariant-loop-b l = Putting (written 0 l.bytes) (text_of l.initial.t) (written 0 l.b-iterator.0.now) (text_of l.t)
