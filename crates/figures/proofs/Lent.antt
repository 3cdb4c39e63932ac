-- A document has the same text in the part of the room that it is lent. Assumes nothing.
use Rattle.figures.proofs.Names.{ℕ, ◌+◌, ◌*◌, ◌≤◌, ◌<◌, ◌≡◌, ap, ⊎_elim, List, length}
use Rattle.figures.proofs.Names.{arith, le_or_lt, console, shelf}
use Rattle.figures.proofs.Names.{full_text, lent}
use Rattle.console_bound.proofs.Counts.{bound_small}
use Rattle.console_bound.proofs.Room.{console_room}
use Rattle.figures.proofs.LargerRoom.{same_in_larger_room}

-- 02, point 10: '13 never comes when that much is lent'
pub same_when_lent : (d : List ℕ) → console shelf (lent (length d)) d ≡ full_text d
unfolding full_text
same_when_lent d =
    ⊎_elim
    (λ (h : 54 * length d + 1 ≤ 65_536).
    same_in_larger_room (lent (length d)) 65_536 (omega arith) shelf d λ p. console_room shelf (lent (length d)) d p (omega (arith, bound_small d)))
    (λ (h : 65_536 < 54 * length d + 1). let e : lent (length d) ≡ 65_536 = omega arith in ap (λ (k : ℕ). console shelf k d) e)
    (le_or_lt (54 * length d + 1) 65_536)
