use Rattle.merge_sides.proofs.Names.{◌-◌, length}
use Rattle.merge_sides.proofs.Listing.{Listing}
use Rattle.merge_sides.proofs.is_list.Given as goal

-- The document is a list exactly if from a place on items follow, and the end record.
-- What is left of the document falls.

abbrev pub invariant-loop-at : goal.invariant-loop-at
invariant-loop-at l = Listing l.document l.at

abbrev pub decreases-loop-at : goal.decreases-loop-at
decreases-loop-at l = length l.document - l.at
