use Rattle.utf8.proofs.Names.{◌≡◌, ◌≤◌, ◌-◌, length, sound_at}
use Rattle.utf8.proofs.blocks.Given as goal

-- The invariant: the bytes from `from` on stand where those from i on do.
-- What falls: the bytes from i on.
abbrev pub invariant-loop-i : goal.invariant-loop-i
invariant-loop-i l = (3 ≤ l.i) × (l.i ≤ length l.s) × (sound_at l.s l.from ≡ sound_at l.s l.i)

abbrev pub decreases-loop-i : goal.decreases-loop-i
decreases-loop-i l = length l.s - l.i
