use Rattle.utf8.proofs.Names.{◌≡◌, length, utf8}
use Rattle.utf8.proofs.chars.Given as goal

-- The invariant: the text is UTF-8 exactly where the bytes that are left are.
-- What falls: the bytes that are left.
abbrev pub invariant-loop-k : goal.invariant-loop-k
invariant-loop-k l = utf8 l.s ≡ utf8 l.rest

abbrev pub decreases-loop-k : goal.decreases-loop-k
decreases-loop-k l = length l.rest
