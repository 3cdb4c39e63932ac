use Rattle.console_tabstop.proofs.Names.{false, ◌-◌, length, tokens, Terms, terms, settled_from, terms_of}
use Rattle.console_tabstop.proofs.Searching.{On}
use Rattle.console_tabstop.proofs.find_tabstop.Given as goal

-- Invariant: from the record at `at` on, what was counted gives what all records give from nothing (On).
-- What falls: what is left of the document.

abbrev pub none : Terms
none = record { widest = 0; counting = false; counted = 0 }

abbrev pub invariant-loop-at : goal.invariant-loop-at
invariant-loop-at l = On l.document (terms (tokens 0 0 l.document) none) (settled_from (length l.document) (tokens 0 0 l.document) none) l.at (terms_of l.t)

abbrev pub decreases-loop-at : goal.decreases-loop-at
decreases-loop-at l = length l.document - l.at
