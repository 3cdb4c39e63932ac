use Rattle.upper.proofs.Names.{◌≡◌, ◌-◌, ◌≤◌, length}
use Rattle.upper.proofs.Going.{Going}
use Rattle.upper.proofs.to_uppercase.Given as goal

-- The invariant: the buffer has 64 bytes, of which `len` are used; these are the text from `at` up to `next` in upper
-- case. What falls is the text that is left.
abbrev pub invariant-loop-len : goal.invariant-loop-len
invariant-loop-len l = (length l.bytes ≡ 64) × (l.len ≤ 64) × Going l.text l.at l.bytes l.len l.next

abbrev pub decreases-loop-len : goal.decreases-loop-len
decreases-loop-len l = length l.text - l.next
