use Rattle.notes_text.proofs.Names.{length}
use Rattle.notes_text.specs.InnerParts.{KeepsLast}
use Rattle.room.specs.Lent.{text_of}
use Rattle.notes_text.proofs.Runs.{Ran}
use Rattle.notes_text.proofs.put_run.Given as goal

-- What stands there, and then the bytes of that style that still lead what is left, is what stood there at first, and then those that lead the text;
-- the last backtick stays. The bytes left fall.

abbrev pub invariant-loop-first : goal.invariant-loop-first
invariant-loop-first l = Ran l.s l.literal (text_of l.initial.t) (text_of l.t) l.run × KeepsLast l.s l.run.rest.now

abbrev pub decreases-loop-first : goal.decreases-loop-first
decreases-loop-first l = length l.run.rest.now
