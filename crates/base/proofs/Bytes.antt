-- Facts of one byte, computed at all 256. Assumes nothing.
use Rattle.base.proofs.Names.{◌≡◌, refl, sym, ⊎_elim, Bool, true, false, ◌&&◌, beq, ℕ, zero, suc, ◌<◌, not-suc-le-zero, le_of_suc-le-suc}
use Rattle.base.proofs.Names.{eq-or-lt_of_le}
use Rattle.base.proofs.Choice.{and_left, and_right}

-- a test passes at each number below n
abbrev pub all : ℕ → (ℕ → Bool) → Bool
all zero f = true
all (suc n) f = f n && all n f

pub all_at : (n : ℕ) (f : ℕ → Bool) → all n f ≡ true → (k : ℕ) → k < n → f k ≡ true
all_at zero f e k h = absurd (not-suc-le-zero h)
all_at (suc n) f e k h =
    ⊎_elim (λ (q : k ≡ n). rw q (and_left (f n) (all n f) e)) (λ (l : k < n). all_at n f (and_right (f n) (all n f) e) k l)
    (eq-or-lt_of_le (le_of_suc-le-suc h))

beq_eq : (a b : Bool) → beq a b ≡ true → a ≡ b
beq_eq true true e = refl
beq_eq false false e = refl
beq_eq true false e = sym e
beq_eq false true e = e

-- two tests of a byte that agree at each
pub byte : (f g : ℕ → Bool) → all 256 (λ k. beq (f k) (g k)) ≡ true → (k : ℕ) → k < 256 → f k ≡ g k
byte f g e k h = beq_eq (f k) (g k) (all_at 256 (λ k. beq (f k) (g k)) e k h)
