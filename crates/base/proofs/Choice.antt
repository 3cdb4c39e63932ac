-- A choice taken apart, laws of `&&`, and numbers compared. Assumes nothing.
use Rattle.base.proofs.Names.{◌≡◌, refl, sym, ◌⊎◌, inl, inr, Bool, true, false, ◌&&◌, false≢true, ℕ, ◌≤◌, ◌<◌, leb, eqb, leb-true, leb-false}
use Rattle.base.proofs.Names.{eqb-true, eqb-false, when◌then◌else◌}

-- what holds of either side, given the test, holds of the choice
pub pick {ℓ} : {A : Type 0} (P : A → Type ℓ) (c : Bool) {a b : A} → (c ≡ true → P a) → (c ≡ false → P b) → P (when c then a else b)
unfolding when◌then◌else◌
pick P true f g = f refl
pick P false f g = g refl

-- the choice, where the test is known
pub if_true : {A : Type 0} {c : Bool} (a b : A) → c ≡ true → when c then a else b ≡ a
unfolding when◌then◌else◌
if_true a b e = rw e

pub if_false : {A : Type 0} {c : Bool} (a b : A) → c ≡ false → when c then a else b ≡ b
unfolding when◌then◌else◌
if_false a b e = rw e

pub and_left : (a b : Bool) → a && b ≡ true → a ≡ true
and_left true b e = refl
and_left false b e = e

pub and_right : (a b : Bool) → a && b ≡ true → b ≡ true
and_right true b e = e
and_right false b e = absurd (false≢true e)

pub and_both : {a b : Bool} → a ≡ true → b ≡ true → a && b ≡ true
and_both e f = rw (e, f)

-- a test with a true one beside it fails by itself
pub and_fails : (a : Bool) → a && true ≡ false → a ≡ false
and_fails true e = e
and_fails false e = refl

-- two tests that pass together are one
pub same_test : (x y : Bool) → (x ≡ true → y ≡ true) → (y ≡ true → x ≡ true) → x ≡ y
same_test true y f g = sym (f refl)
same_test false true f g = g refl
same_test false false f g = refl

-- a test that cannot pass fails
pub not-passed : (x : Bool) → (x ≡ true → ⊥) → x ≡ false
not-passed true h = absurd (h refl)
not-passed false h = refl

pub le_or_lt : (a b : ℕ) → (a ≤ b) ⊎ (b < a)
le_or_lt a b = go (leb a b) refl
  where
    go : (x : Bool) → leb a b ≡ x → (a ≤ b) ⊎ (b < a)
    go true e = inl (leb-true a b e)
    go false e = inr (leb-false a b e)

pub eq_or_not : (a b : ℕ) → (a ≡ b) ⊎ (a ≡ b → ⊥)
eq_or_not a b = go (eqb a b) refl
  where
    go : (x : Bool) → eqb a b ≡ x → (a ≡ b) ⊎ (a ≡ b → ⊥)
    go true e = inl (eqb-true a b e)
    go false e = inr (eqb-false a b e)
