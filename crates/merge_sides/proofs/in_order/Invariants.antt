use Rattle.merge_sides.proofs.Names.{◌-◌, length, Reads}
use Rattle.merge_sides.proofs.Sides.{Climbing}
use Rattle.merge_sides.proofs.in_order.Given as goal

-- The items from one on ascend as all do, and the key of that one has its term.
-- What is left of the document falls.

abbrev pub invariant-loop-here : goal.invariant-loop-here
invariant-loop-here l = Climbing l.document l.here × Reads l.document l.after

abbrev pub decreases-loop-here : goal.decreases-loop-here
decreases-loop-here l = length l.document - l.here.at
