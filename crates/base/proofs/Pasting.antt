-- Bytes put into a room from a place on. Assumes nothing.
use Rattle.base.proofs.Names.{ℕ, ◌+◌, ◌≤◌, ◌<◌, ◌≡◌, sym, ap, ◌∙◌, List, ◌++◌, append-nil, length, take, drop, drop_of_length-le, take-length, paste}
use Rattle.base.proofs.Names.{arith, le-leb, lt-leb}
use Rattle.base.specs.Bytes.{pasted, overwritten}
use Rattle.base.proofs.Choice.{if_true, if_false}

-- a copy that is complete, of what the room holds
pub paste-whole : (room : List ℕ) (at : ℕ) (x : List ℕ) → at + length x ≤ length room → paste room at x (length x) ≡ overwritten room at x
unfolding overwritten
paste-whole room at x h =
    ap (λ (l : List ℕ). take at room ++ l ++ drop (at + length x) room) (take-length x)
    ∙ sym (if_true _ _ (le-leb (at + length x) (length room) h))

-- a room that holds them, and one that does not
pub overwritten_fits : (room : List ℕ) (at : ℕ) (x : List ℕ) → at + length x ≤ length room → overwritten room at x ≡ pasted room at x
unfolding overwritten
overwritten_fits room at x h = if_true _ _ (le-leb (at + length x) (length room) h)

pub overwritten-not : (room : List ℕ) (at : ℕ) (x : List ℕ) → length room < at + length x → overwritten room at x ≡ room
unfolding overwritten
overwritten-not room at x h = if_false _ _ (lt-leb (at + length x) (length room) h)

-- a room that they fill
pub overwritten-whole : (room x : List ℕ) → length room ≡ length x → overwritten room 0 x ≡ x
overwritten-whole room x e =
    overwritten_fits room 0 x (omega arith)
    ∙ ap (λ (l : List ℕ). x ++ l) (drop_of_length-le room {i = 0 + length x} (omega arith)) ∙ append-nil x
