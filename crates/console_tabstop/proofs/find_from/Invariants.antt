use Rattle.console_tabstop.proofs.Names.{◌-◌, length, tokens_from, terms, settled_from, terms_of}
use Rattle.console_tabstop.proofs.Searching.{On}
use Rattle.console_tabstop.proofs.find_from.Given as goal

-- Invariant: from the record at i on, what was counted gives what it gives from the record at `from` on (On).
-- What falls: what is left of the document.

abbrev pub invariant-loop-i : goal.invariant-loop-i
invariant-loop-i l =
    On l.document (terms (tokens_from l.document l.from) (terms_of l.initial.t))
    (settled_from (length l.document) (tokens_from l.document l.from) (terms_of l.initial.t)) l.i (terms_of l.t)

abbrev pub decreases-loop-i : goal.decreases-loop-i
decreases-loop-i l = length l.document - l.i
