use Rattle.console_tabstop.proofs.Names.{◌-◌, length, Passed}
use Rattle.console_tabstop.proofs.next_term.Given as goal

-- Invariant: the records from `from` up to `at` change no count while no term is being counted (Passed).
-- What falls: what is left of the document.

abbrev pub invariant-loop-at : goal.invariant-loop-at
invariant-loop-at l = Passed l.document l.from l.at

abbrev pub decreases-loop-at : goal.decreases-loop-at
decreases-loop-at l = length l.document - l.at
