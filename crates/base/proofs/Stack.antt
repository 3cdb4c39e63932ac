-- A stack kept in the first places of an array, with their number. Assumes nothing.
use Rattle.base.proofs.Names.{ℕ, ◌+◌, ◌-◌, ◌≤◌, ◌<◌, ◌≡◌, sym, ap, ◌∙◌, List, [], ◌∷◌, ◌++◌, length, take, get_or, set, length-append, length-take-le}
use Rattle.base.proofs.Names.{take-take, take-suc-set, get_or-take, take-append_seam, add-one, arith}
use Rattle.base.specs.Stack.{top, pushed, popped}

pub length-pushed : (x : ℕ) (xs : List ℕ) → length (pushed x xs) ≡ length xs + 1
unfolding pushed
length-pushed x xs = length-append xs (x ∷ [])

pub length-popped : (xs : List ℕ) → length (popped xs) ≡ length xs - 1
unfolding popped
length-popped xs = length-take-le (length xs - 1) xs (omega arith)

pub popped-pushed : (x : ℕ) (xs : List ℕ) → popped (pushed x xs) ≡ xs
unfolding popped pushed
popped-pushed x xs =
    let e : length (xs ++ x ∷ []) - 1 ≡ length xs = omega (arith, length-append xs (x ∷ [])) in
    ap (λ (n : ℕ). take n (xs ++ x ∷ [])) e ∙ take-append_seam xs (x ∷ [])

module _ (array : List ℕ) (depth : ℕ) where
  pub push-take : (x : ℕ) → depth < length array → take (depth + 1) (set array depth x) ≡ pushed x (take depth array)
  unfolding pushed
  push-take x h = rw (add-one, take-suc-set array depth x h)

  pub pop_take : depth ≤ length array → take (depth - 1) array ≡ popped (take depth array)
  unfolding popped
  pop_take h = rw (length-take-le depth array h) (sym (take-take (depth - 1) depth array (omega arith)))

  pub top-take : 1 ≤ depth → depth ≤ length array → top (take depth array) ≡ get_or array (depth - 1) 0
  unfolding top
  top-take g h = rw (length-take-le depth array h) (get_or-take depth array (depth - 1) 0 (omega arith))
