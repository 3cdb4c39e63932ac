use Rattle.joined_check.specs.Listed.{left}
use Rattle.joined.proofs.Placing.{Finding}
use Rattle.joined.proofs.byte_in.Given as goal

-- Invariant: the first record that is left stands at `at` in the document, its text starts at `from`, and from there on the rules find what they find
-- from the start.
-- What falls: the records that are left, which the iterator counts.
abbrev pub invariant-loop-s : goal.invariant-loop-s
invariant-loop-s l = Finding l.joined l.p l.at l.from (left l.s-iterator)
