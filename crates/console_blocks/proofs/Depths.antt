-- The margins: the innermost, one more, one less, and how deep they lie. Assumes nothing.
use Rattle.console_blocks.proofs.Names.{List, [], ◌∷◌, ℕ, ◌+◌, ◌≤◌, ◌≡◌, ◌∙◌, ap, arith, length, take, top, pushed}
use mathlib.Core.List.{◌++◌}
use mathlib.Core.Path.{sym}
use native.Mathlib.Numerals.{add-one}
use Prim.Native.Nat.{◌<◌, zero, suc}
use lib.ListN.{get_or, set}
use lib.Seq.{take-suc}
use Rattle.std.proofs.lemmas.List.{take_more_set}
use Rattle.base.specs.Stack.{popped}
use Rattle.console_blocks.specs.InnerDepth.{Shallow}

-- no margin lies deeper than the deepest
module _ (n : ℕ) (margins : List ℕ) (s : Shallow n margins) where
  pub top_shallow : top margins ≤ n
  unfolding top
  top_shallow = s.each _

  -- nor deeper than a larger number
  pub shallow_on : (k : ℕ) → n ≤ k → Shallow k margins
  shallow_on k h = record { each = λ j. omega (arith, s.each j) }

take_low : (n k : ℕ) (xs : List ℕ) → ((i : ℕ) → get_or xs i 0 ≤ n) → (j : ℕ) → get_or (take k xs) j 0 ≤ n
take_low n zero xs h j = omega arith
take_low n (suc k) [] h j = omega arith
take_low n (suc k) (x ∷ xs) h zero = h 0
take_low n (suc k) (x ∷ xs) h (suc j) = take_low n k xs (λ i. h (suc i)) j

pub pop_shallow : (n : ℕ) (margins : List ℕ) → Shallow n margins → Shallow n (popped margins)
unfolding popped
pop_shallow n margins s = record { each = take_low n _ margins s.each }

more_low : (n v : ℕ) (xs : List ℕ) → v ≤ n → ((i : ℕ) → get_or xs i 0 ≤ n) → (j : ℕ) → get_or (xs ++ v ∷ []) j 0 ≤ n
more_low n v [] l h zero = l
more_low n v [] l h (suc j) = omega arith
more_low n v (x ∷ xs) l h zero = h 0
more_low n v (x ∷ xs) l h (suc j) = more_low n v xs l (λ i. h (suc i)) j

-- one margin more; v is what was put there
pub push_shallow : (n more k v : ℕ) (margins : List ℕ) → Shallow n margins → v ≤ top margins + more → n + more ≤ k → Shallow k (pushed v margins)
unfolding pushed
push_shallow n more k v margins s l h =
    let t = top_shallow n margins s in
    record { each = more_low k v margins (omega arith) (λ i. omega (arith, s.each i)) }

-- a margin of a list that is put in its place goes on with the list
pub copied : (columns kept : List ℕ) (i : ℕ) → i < length columns → i < length kept → take i columns ≡ take i kept
    → take (i + 1) (set columns i (get_or kept i 0)) ≡ take (i + 1) kept
copied columns kept i c k e =
    let more : take (i + 1) kept ≡ take i kept ++ get_or kept i 0 ∷ [] = rw (add-one) (take-suc kept i 0 k) in
    take_more_set columns i (get_or kept i 0) c ∙ ap (λ (xs : List ℕ). xs ++ get_or kept i 0 ∷ []) e ∙ sym more
