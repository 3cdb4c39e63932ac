use Rattle.pages.proofs.Names.{◌≡◌, ◌+◌, ◌-◌, ◌≤◌, length, bytes_of}
use Rattle.pages.proofs.skip_rows.Given as goal

-- In what is left, the rows that are due end where k rows end in the whole.
-- What is left of the text falls.

abbrev pub invariant-loop-block : goal.invariant-loop-block
invariant-loop-block l = (length l.rest ≤ length l.s) × (bytes_of l.k l.s ≡ (length l.s - length l.rest) + bytes_of l.due l.rest)

abbrev pub decreases-loop-block : goal.decreases-loop-block
decreases-loop-block l = length l.rest
