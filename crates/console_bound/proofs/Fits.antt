-- Rules that are not refused by 13 where there is room enough, and a property of what they give. Assumes nothing.
use Rattle.console_bound.proofs.Names.{ℕ, ◌<◌, ◌≡◌, arith, Result, gives, refused, ◌>>=◌}

-- what is given has a property, and what is refused is refused by a number under 13 where there is room
pub data Fits (Ample : Type 0) {A : Type 0} (P : A → Type 0) : Result A → Type 0 where
  given : {a : A} → P a → Fits Ample P (gives a)
  other : {n p : ℕ} → (Ample → n < 13) → Fits Ample P (refused n p)

module _ (Ample : Type 0) where
  pub fits_bind : {A B : Type 0} (P : A → Type 0) (Q : B → Type 0) (m : Result A) (f : A → Result B) → Fits Ample P m
      → ((a : A) → P a → Fits Ample Q (f a)) → Fits Ample Q (m >>= f)
  unfolding ◌>>=◌
  fits_bind P Q (gives a) f (given h) k = k a h
  fits_bind P Q (refused n p) f (other h) k = other h

  fits_under : {A : Type 0} {P : A → Type 0} {n p : ℕ} → Fits Ample P (refused n p) → Ample → n < 13
  fits_under (other h) e = h e

  pub fits_never : {A : Type 0} {P : A → Type 0} (m : Result A) (p : ℕ) → Fits Ample P m → Ample → m ≡ refused 13 p → ⊥
  fits_never m p h ample e = let z = fits_under (rw e at h) ample in omega arith

  fits_has : {A : Type 0} {P : A → Type 0} {a : A} → Fits Ample P (gives a) → P a
  fits_has (given h) = h

  pub fits_given : {A : Type 0} {P : A → Type 0} (m : Result A) (a : A) → Fits Ample P m → m ≡ gives a → P a
  fits_given m a h e = fits_has (rw e at h)
