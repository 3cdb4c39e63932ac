-- What it says that two lists are one. Assumes nothing.
use Rattle.compared.proofs.Names.{ℕ, ◌≡◌, refl, ap₂, true, false, List, [], ◌∷◌, eqb}
use Rattle.compared.proofs.Names.{eqb-true, eq-eqb, and_left, and_right, and_both, same}
use mathlib.Core.Bool.{Bool, false≢true, ◌&&◌}

-- a second test that fails
pub and_no : (x : Bool) {y : Bool} → y ≡ false → x && y ≡ false
and_no true e = e
and_no false e = refl

-- lists that are the same are one, and the other way round
pub same-one : (xs ys : List ℕ) → same xs ys ≡ true → xs ≡ ys
unfolding same
same-one [] [] e = refl
same-one [] (y ∷ ys) e = absurd (false≢true e)
same-one (x ∷ xs) [] e = absurd (false≢true e)
same-one (x ∷ xs) (y ∷ ys) e = ap₂ ◌∷◌ (eqb-true x y (and_left _ (same xs ys) e)) (same-one xs ys (and_right (eqb x y) _ e))

pub same_self : (xs : List ℕ) → same xs xs ≡ true
unfolding same
same_self [] = refl
same_self (x ∷ xs) = and_both (eq-eqb x x refl) (same_self xs)
