use Rattle.notes_text.proofs.Names.{length}
use Rattle.notes_text.specs.InnerParts.{KeepsLast}
use Rattle.room.specs.Lent.{text_of}
use Rattle.notes_text.proofs.Runs.{Leaves}
use Rattle.notes_text.proofs.put_text.Given as goal

-- What stands there, and then the records of what is left of the text, is what stood there at first, and then all its records; the last
-- backtick stays. The bytes left fall.

abbrev pub invariant-loop-first : goal.invariant-loop-first
invariant-loop-first l = Leaves l.s (text_of l.initial.t) (text_of l.t) l.left × KeepsLast l.s l.left.rest.now

abbrev pub decreases-loop-first : goal.decreases-loop-first
decreases-loop-first l = length l.left.rest.now
