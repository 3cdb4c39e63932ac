use Rattle.white.proofs.Names.{◌≡◌, length, trim}
use Rattle.white.proofs.trim_end.Given as goal

-- The invariant: trimming what is left gives what trimming the whole text gives.
-- What falls: what is left.
abbrev pub invariant-loop-k : goal.invariant-loop-k
invariant-loop-k l = trim l.s ≡ trim l.text

abbrev pub decreases-loop-k : goal.decreases-loop-k
decreases-loop-k l = length l.text
