-- A prefix, and what has it. Assumes nothing.
use Rattle.base.proofs.Names.{ℕ, ◌+◌, ◌≤◌, ◌<◌, ◌≡◌, refl, sym, ◌∙◌, Bool, true, false, false≢true, List, [], ◌∷◌, ◌++◌, eqb, length, drop}
use Rattle.base.proofs.Names.{◌-◌, ⊎_elim}
use Rattle.base.proofs.Names.{length-drop, arith, le-leb, lt-leb, eq-eqb, eqb-true, starts_with}
use Rattle.base.proofs.Choice.{and_left, and_right, not-passed, same_test, le_or_lt}
use Rattle.std.specs.List.{list_all, zip}
use Rattle.std.specs.List.{ends_with as library}
use Rattle.base.specs.Bytes.{ends_with}
use lib.Pointwise.{pointwise}

-- what has a prefix is that and the rest
pub starts-split : (p s : List ℕ) → starts_with p s ≡ true → s ≡ p ++ drop (length p) s
unfolding starts_with
starts-split [] s e = refl
starts-split (x ∷ p) [] e = absurd (false≢true e)
starts-split (x ∷ p) (b ∷ s) e =
    rw (eqb-true b x (and_left (eqb b x) (starts_with p s) e), ← starts-split p s (and_right (eqb b x) (starts_with p s) e))

-- and is no shorter
pub starts-length : (p s : List ℕ) → starts_with p s ≡ true → length p ≤ length s
unfolding starts_with
starts-length [] s e = omega arith
starts-length (x ∷ p) [] e = absurd (false≢true e)
starts-length (x ∷ p) (b ∷ s) e = let h = starts-length p s (and_right (eqb b x) (starts_with p s) e) in omega arith

pub starts_fits : (p s : List ℕ) (at : ℕ) (r : Bool) → at ≤ length s → r ≡ starts_with p (drop at s) → r ≡ true → at + length p ≤ length s
starts_fits p s at r h e f = let k = starts-length p (drop at s) (sym e ∙ f) in omega (arith, length-drop at s)

-- what is shorter does not have it
pub starts-short : (p s : List ℕ) → length s < length p → starts_with p s ≡ false
starts-short p s h = not-passed (starts_with p s) (λ e. let l = starts-length p s e in omega arith)

-- a test of two bytes, either one first
pub eqb_turned : (a b : ℕ) → eqb a b ≡ eqb b a
eqb_turned a b = same_test (eqb a b) (eqb b a) (λ e. eq-eqb b a (sym (eqb-true a b e))) (λ e. eq-eqb a b (sym (eqb-true b a e)))

-- the bytes of a prefix are those beside them
pub starts-zipped : (p s : List ℕ) → length p ≤ length s → list_all (λ (q : ℕ × ℕ). eqb q.0 q.1) (zip p s) ≡ starts_with p s
unfolding starts_with
starts-zipped [] s h = refl
starts-zipped (x ∷ p) [] h = absurd (omega arith)
starts-zipped (x ∷ p) (b ∷ s) h = rw (eqb_turned x b, starts-zipped p s (omega arith))

-- the library's test of an end says the same
each_equal : (x t : List ℕ) → length t ≤ length x → pointwise eqb x t ≡ starts_with x t
unfolding starts_with
each_equal [] [] h = refl
each_equal [] (b ∷ t) h = absurd (omega arith)
each_equal (a ∷ x) [] h = refl
each_equal (a ∷ x) (b ∷ t) h = rw (eqb_turned a b, each_equal x t (omega arith))

pub ends_with-library : (x s : List ℕ) → library eqb s x ≡ ends_with x s
unfolding ends_with
ends_with-library x s =
    let t = drop (length s - length x) s in
    each_equal x t (omega (arith, length-drop (length s - length x) s))
    ∙ ⊎_elim (λ (h : length x ≤ length s). rw (le-leb (length x) (length s) h))
    (λ (h : length s < length x). rw (lt-leb (length x) (length s) h) (starts-short x t (omega (arith, length-drop (length s - length x) s))))
    (le_or_lt (length x) (length s))
