use Rattle.notes.proofs.Names.{length}
use Rattle.room.specs.Lent.{text_of}
use Rattle.notes.proofs.Steps.{Leaves}
use Rattle.notes.proofs.put_parts.Given as goal

-- What stands there, and then the document of the notes that are left, is what stood there at first, and then the whole document.
-- The bytes left fall.

abbrev pub invariant-loop-rest : goal.invariant-loop-rest
invariant-loop-rest l = Leaves l.s (text_of l.initial.t) (text_of l.t) l.rest

abbrev pub decreases-loop-rest : goal.decreases-loop-rest
decreases-loop-rest l = length l.rest
