use Rattle.manpage.proofs.Names.{◌≤◌, ◌-◌, length, Alike}
use Rattle.manpage.proofs.past_silent.Given as goal

-- From `at` on the rules do what they do from `from` on, which stands no later.
-- What falls: the bytes of the document after `at`.

abbrev pub invariant-loop-at : goal.invariant-loop-at
invariant-loop-at l = (l.from ≤ l.at) × Alike l.document l.from l.at

abbrev pub decreases-loop-at : goal.decreases-loop-at
decreases-loop-at l = length l.document - l.at
