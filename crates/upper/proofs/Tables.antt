-- What holds of any table in order: each entry is what its character maps to, and below a number only the entries below it count. Assumes nothing.
use Rattle.upper.proofs.Names.{◌≡◌, refl, ap, ◌∙◌, Bool, true, ◌&&◌, List, [], ◌∷◌, map, ℕ, zero, suc, ◌<◌, ◌≤◌, not-suc-le-zero, le_of_suc-le-suc}
use Rattle.upper.proofs.Names.{arith, ltb, eqb, length, get_or, length-map, get_or-map, ltb-false, eq-eqb, ne_eqb, when◌then◌else◌, among}
use Rattle.upper.proofs.Names.{if_true, if_false, pick, and_left, and_right, and_both, scalar, Entry, ◌becomes◌, from, to, entry_of, under, ascending}
use Rattle.upper.proofs.Names.{scalars, proper, in_order}
use Rattle.upper.proofs.Search.{ascends}

-- stands for the entry past the end of a table
abbrev pub none : Entry
none = 0 becomes 0 ∷ []

abbrev pub good : Entry → Bool
good e = scalar (from e) && scalars (to e) && among 1 3 (length (to e))

-- `in_order` of a table that is not empty
module _ (e : Entry) (es : List Entry) (o : in_order (e ∷ es) ≡ true) where
  ascends_all : under (from e) (map from es) && ascending (map from es) ≡ true
  ascends_all = and_left (under (from e) (map from es) && ascending (map from es)) (proper (e ∷ es)) o

  proper_all : good e && proper es ≡ true
  proper_all = and_right (under (from e) (map from es) && ascending (map from es)) (proper (e ∷ es)) o

  pub is-before : under (from e) (map from es) ≡ true
  is-before = and_left (under (from e) (map from es)) (ascending (map from es)) ascends_all

  pub is_good : good e ≡ true
  is_good = and_left (good e) (proper es) proper_all

  pub rest_in_order : in_order es ≡ true
  rest_in_order = and_both (and_right (under (from e) (map from es)) (ascending (map from es)) ascends_all) (and_right (good e) (proper es) proper_all)

  with_rest : (xs : List Entry) → under (from e) (map from xs) ≡ true → in_order xs ≡ true → in_order (e ∷ xs) ≡ true
  with_rest xs b r =
      and_both (and_both b (and_left (ascending (map from xs)) (proper xs) r)) (and_both is_good (and_right (ascending (map from xs)) (proper xs) r))

-- the mapped characters ascend
pub in_order_lem : (es : List Entry) → in_order es ≡ true → ascending (map from es) ≡ true
in_order_lem es o = and_left (ascending (map from es)) (proper es) o

pub from_at : (es : List Entry) (k : ℕ) → get_or (map from es) k 0 ≡ from (get_or es k none)
from_at es k = get_or-map from es k none

-- the first is below each that stands after it
first_below : (e : Entry) (es : List Entry) → in_order (e ∷ es) ≡ true → (k : ℕ) → k < length es → from e < from (get_or es k none)
first_below e es o k h =
    rw (← from_at es k)
    (ascends (map from (e ∷ es)) (in_order_lem (e ∷ es) o) 0 (suc k) (omega arith) (omega (arith, length-map es from)))

-- 02: 'each mapped character once': so an entry is what its character maps to
pub each_entry : (es : List Entry) → in_order es ≡ true → (k : ℕ) → k < length es → entry_of es (from (get_or es k none)) ≡ to (get_or es k none)
each_entry [] o k h = absurd (not-suc-le-zero h)
each_entry (e ∷ es) o zero h = if_true _ _ (eq-eqb (from e) (from e) refl)
each_entry (e ∷ es) o (suc k) h =
    let l = first_below e es o k (le_of_suc-le-suc h) in
    if_false _ _ (ne_eqb (from e) (from (get_or es k none)) (λ q. omega arith)) ∙ each_entry es (rest_in_order e es o) k (le_of_suc-le-suc h)

-- 'a character without an entry maps to itself'
pub no_entry : (es : List Entry) (c : ℕ) → ((k : ℕ) → k < length es → from (get_or es k none) ≡ c → ⊥) → entry_of es c ≡ c ∷ []
no_entry [] c n = refl
no_entry (e ∷ es) c n = if_false _ _ (ne_eqb (from e) c (n 0 (omega arith))) ∙ no_entry es c (λ k h. n (suc k) (omega arith))

-- The entries at the head of a table that are below n: a character below n is looked for among these.
abbrev pub below : ℕ → List Entry → List Entry
below n [] = []
below n (e ∷ es) = when ltb (from e) n then e ∷ below n es else []

under-below : (n c : ℕ) (es : List Entry) → under c (map from es) ≡ true → under c (map from (below n es)) ≡ true
under-below n c [] b = refl
under-below n c (e ∷ es) b = pick (λ l. under c (map from l) ≡ true) (ltb (from e) n) (λ _. b) (λ _. refl)

pub below-order : (n : ℕ) (es : List Entry) → in_order es ≡ true → in_order (below n es) ≡ true
below-order n [] o = refl
below-order n (e ∷ es) o =
    pick (λ l. in_order l ≡ true) (ltb (from e) n)
    (λ _. with_rest e es o (below n es) (under-below n (from e) es (is-before e es o)) (below-order n es (rest_in_order e es o)))
    (λ _. refl)

pub entry_below : (n : ℕ) (es : List Entry) (c : ℕ) → in_order es ≡ true → c < n → entry_of es c ≡ entry_of (below n es) c
entry_below n [] c o h = refl
entry_below n (e ∷ es) c o h =
    pick (λ l. entry_of (e ∷ es) c ≡ entry_of l c) (ltb (from e) n)
    (λ _. ap (λ (x : List ℕ). when eqb (from e) c then to e else x) (entry_below n es c (rest_in_order e es o) h))
    (λ q. no_entry (e ∷ es) c (nowhere (ltb-false (from e) n q)))
  where
    nowhere : n ≤ from e → (k : ℕ) → k < length (e ∷ es) → from (get_or (e ∷ es) k none) ≡ c → ⊥
    nowhere l zero g q = omega arith
    nowhere l (suc k) g q = omega (arith, first_below e es o k (le_of_suc-le-suc g))
