use Rattle.joined.proofs.Names.{◌≡◌}
use Rattle.joined_rules.specs.Places.{place_from, place_in}
use Rattle.joined_check.specs.Listed.{left}
use Rattle.joined.proofs.place_in.Given as goal

-- Invariant: the first record that is left stands at `at` in the document, and from there on the rules find what they find from the start.
-- What falls: the records that are left, which the iterator counts.
abbrev pub invariant-loop-s : goal.invariant-loop-s
invariant-loop-s l = place_from l.records.at l.at (left l.records) l.p ≡ place_in l.joined l.p
