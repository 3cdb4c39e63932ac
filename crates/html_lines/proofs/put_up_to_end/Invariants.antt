use Rattle.html_lines.proofs.Names.{◌-◌, length}
use Rattle.room.specs.Lent.{text_of}
use Rattle.html_lines.proofs.Lines.{Left}
use Rattle.html_lines.proofs.put_up_to_end.Given as goal

-- Of the line, the bytes from `i` on are left; written after what stands there, they give the whole line.
-- What is left of the body falls.
abbrev pub invariant-loop-i : goal.invariant-loop-i
invariant-loop-i l = Left l.strict l.body l.at (text_of l.initial.t) (text_of l.t) l.i

abbrev pub decreases-loop-i : goal.decreases-loop-i
decreases-loop-i l = length l.body - l.i
