-- Binary search in an ascending list, whatever it is. Assumes nothing.
use Rattle.upper.proofs.Names.{◌≡◌, true, List, [], ◌∷◌, ℕ, zero, suc, ◌<◌, not-suc-le-zero, le_of_suc-le-suc}
use Rattle.upper.proofs.Names.{arith, ltb, length, get_or, ltb-true, and_left, and_right, under, ascending}

first_least : (x : ℕ) (xs : List ℕ) → ascending (x ∷ xs) ≡ true → (j : ℕ) → j < length xs → x < get_or xs j 0
first_least x [] e j h = absurd (not-suc-le-zero h)
first_least x (y ∷ ys) e zero h = ltb-true x y (and_left (ltb x y) (ascending (y ∷ ys)) e)
first_least x (y ∷ ys) e (suc j) h =
    let a = ltb-true x y (and_left (ltb x y) (ascending (y ∷ ys)) e) in
    let b = first_least y ys (and_right (ltb x y) (ascending (y ∷ ys)) e) j (le_of_suc-le-suc h) in
    omega arith

-- where each number is below the next, it is below all that stand after it
pub ascends : (xs : List ℕ) → ascending xs ≡ true → (i j : ℕ) → i < j → j < length xs → get_or xs i 0 < get_or xs j 0
ascends [] e i j h l = absurd (not-suc-le-zero l)
ascends (x ∷ xs) e i zero h l = absurd (not-suc-le-zero h)
ascends (x ∷ xs) e zero (suc j) h l = first_least x xs e j (le_of_suc-le-suc l)
ascends (x ∷ xs) e (suc i) (suc j) h l =
    ascends xs (and_right (under x xs) (ascending xs) e) i j (le_of_suc-le-suc h) (le_of_suc-le-suc l)
