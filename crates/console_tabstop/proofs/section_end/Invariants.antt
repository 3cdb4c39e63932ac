use Rattle.console_tabstop.proofs.Names.{ℕ, ◌-◌, length, Ahead}
use Rattle.console_tabstop.proofs.section_end.Given as goal

-- Invariant: what lies ahead of the records from i on lies ahead of those from `at` on.
-- What falls: the bytes of the document after i.

abbrev pub invariant-loop-i : goal.invariant-loop-i
invariant-loop-i l = (e : ℕ) → Ahead l.document l.i e → Ahead l.document l.at e

abbrev pub decreases-loop-i : goal.decreases-loop-i
decreases-loop-i l = length l.document - l.i
