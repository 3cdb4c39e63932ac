use Rattle.notes_text.specs.InnerParts.{Free}
use Rattle.notes_text.proofs.ticks_end.Given as goal

-- No backtick stands from end on. The bytes before it fall.

abbrev pub invariant-loop-block : goal.invariant-loop-block
invariant-loop-block l = Free l.s l.end

abbrev pub decreases-loop-block : goal.decreases-loop-block
decreases-loop-block l = l.end
