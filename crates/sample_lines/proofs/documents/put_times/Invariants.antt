use Rattle.sample_lines.proofs.Names.{◌-◌, repeated}
use Rattle.room.specs.Lent.{text_of}
use Rattle.sample_lines.proofs.Writing.{Putting}
use Rattle.sample_lines.proofs.documents.put_times.Given as goal

-- Invariant: the bytes are left to write as often as is left of the times.
-- What falls: the times that are left, which the range counts.
abbrev pub invariant-loop : goal.invariant-loop
invariant-loop l = Putting (repeated l.times l.bytes) (text_of l.initial.d) (repeated (l.times - l.counter) l.bytes) (text_of l.d)
