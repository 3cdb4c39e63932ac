-- Parts of lists. Assumes nothing.
use Rattle.base.proofs.Names.{ℕ, zero, suc, ◌-◌, ◌≤◌, ◌≡◌, sym, List, [], ◌∷◌, length, take, drop, length-drop, take_all, take-nil}
use Rattle.base.proofs.Names.{drop-nil, suc-sub-suc, sub-zero, sub-one, arith}

module _ {A : Type 0} where
  -- without the first element
  pub drop_less : (n : ℕ) (x : A) (l : List A) → 1 ≤ n → drop n (x ∷ l) ≡ drop (n - 1) l
  drop_less zero x l h = absurd (omega arith)
  drop_less (suc n) x l h = rw sub-one

  module _ (l : List A) (from to : ℕ) where
    -- a part that ends no later than it starts
    pub part_none : to ≤ from → take (to - from) (drop from l) ≡ []
    part_none h = let z : to - from ≡ 0 = omega arith in rw z

    -- a part that ends at the end or past it
    pub part_over : length l ≤ to → take (to - from) (drop from l) ≡ drop from l
    part_over h = take_all (to - from) (drop from l) (omega (arith, length-drop from l))

-- the part of a list from k to n is the end of what stands before n
pub part_end : {A : Type 0} (n k : ℕ) (l : List A) → take (n - k) (drop k l) ≡ drop k (take n l)
part_end zero k l =
    let z : zero - k ≡ 0 = omega arith in
    rw z (sym (drop-nil k))
part_end (suc n) zero l = rw sub-zero
part_end (suc n) (suc k) [] = take-nil (suc n - suc k)
part_end (suc n) (suc k) (x ∷ l) = rw suc-sub-suc (part_end n k l)
