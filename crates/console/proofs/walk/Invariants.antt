use Rattle.console.proofs.Names.{◌-◌, length, Known}
use Rattle.console.proofs.Standing.{Standing}
use Rattle.console.proofs.walk.Given as goal

-- Invariant: from the record at `at` on, what page and margins hold gives the whole text (Standing), and the next end of a Section4 that was
-- found is the next one until it is passed (Known).
-- What falls: the bytes of the document after `at`.

abbrev pub invariant-loop-at : goal.invariant-loop-at
invariant-loop-at l =
    Standing l.document l.set l.tab.0 (length l.fn.room) l.initial.page.room.ghost_name l.page l.margins l.at
    × Known l.document l.at l.ahead

abbrev pub decreases-loop-at : goal.decreases-loop-at
decreases-loop-at l = length l.document - l.at
