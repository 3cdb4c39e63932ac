-- The code's table has the entries of the rules' table, and what the library's search answers there. Assumes nothing.
use Rattle.upper.proofs.Names.{◌≡◌, refl, sym, ap, ◌∙◌, ⊎_elim, Bool, true, false, ◌&&◌, false≢true, List, [], ◌∷◌, ℕ, ◌<◌, ◌≤◌, arith, le_or_lt}
use Rattle.upper.proofs.Names.{eqb, eqb-true, and_left, and_right, map, length, get_or, get_or-map, length-map, Entry, ◌becomes◌, table, from, to, maps_to}
use Rattle.upper.proofs.Names.{characters_of, ascending}
use mathlib.Core.Path.{subst}
use Rattle.std.specs.Prelude.{Ok, Err}
use Rattle.std.specs.Ordering.{nat_cmp, ordering_index}
use Rattle.std.specs.List.Sorted.{IsBinarySearchResult, IsNonDecreasingBy}
use Rattle.std.proofs.lemmas.Cmp.{ranked}
use Rattle.std.proofs.lemmas.List.Sorted.{IsNonDecreasingBy-from_default}
use Rattle.std.proofs.lemmas.Bool.Decides.{nat_tests}
use Rattle.upper.specs.declared.table.TheConstants.{TABLE}
use Rattle.upper.specs.declared.Mapped.{Mapped}
use Rattle.upper.specs.declared.Mapped.TheVariants as mapped
use Rattle.upper.proofs.Search.{ascends}
use Rattle.upper.proofs.Tables.{none, no_entry, in_order_lem, from_at}
use Rattle.upper.proofs.Whole.{whole, entry_maps}

-- two lists of numbers that are the same
abbrev pub same : List ℕ → List ℕ → Bool
same [] [] = true
same [] (y ∷ ys) = false
same (x ∷ xs) [] = false
same (x ∷ xs) (y ∷ ys) = eqb x y && same xs ys

pub same_eq : (xs ys : List ℕ) → same xs ys ≡ true → xs ≡ ys
same_eq [] [] e = refl
same_eq [] (y ∷ ys) e = absurd (false≢true e)
same_eq (x ∷ xs) [] e = absurd (false≢true e)
same_eq (x ∷ xs) (y ∷ ys) e =
    rw (eqb-true x y (and_left (eqb x y) (same xs ys) e), same_eq xs ys (and_right (eqb x y) (same xs ys) e))

-- an entry of the code's table
abbrev pub entry : ℕ × Mapped → Entry
entry e = e.0 becomes characters_of e.1

pub entries : map entry TABLE ≡ table
unfolding table
entries = refl

-- its characters ascend, in the whole table that is searched
pub from_ascends : ascending (map from (map entry TABLE)) ≡ true
from_ascends = subst (λ (es : List Entry). ascending (map from es) ≡ true) (sym entries) (in_order_lem table whole)

abbrev pub past : ℕ × Mapped
past = (0, mapped.One 0)

-- a table of such entries, whatever they are, and a character that is looked for in it
module _ (xs : List (ℕ × Mapped)) (is : map entry xs ≡ table) (c : ℕ) where
  entry_at : (k : ℕ) → get_or table k none ≡ entry (get_or xs k past)
  entry_at k = rw (← is) (get_or-map entry xs k past)

  size : length table ≡ length xs
  size = rw (← is) (length-map xs entry)

  ascend : (i j : ℕ) → i < j → j < length xs → (get_or xs i past).0 < (get_or xs j past).0
  ascend i j l h =
      let a = ascends (map from table) (in_order_lem table whole) i j l (omega (arith, length-map table from, size)) in
      omega (arith, a, from_at table i, from_at table j, ap from (entry_at i), ap from (entry_at j))

  -- the comparisons with c rise along the table, as a binary search asks
  rises : IsNonDecreasingBy (λ e. ordering_index (nat_cmp e.0 c)) xs
  rises = IsNonDecreasingBy-from_default (λ e. ordering_index (nat_cmp e.0 c)) xs past (λ i j le h.
      let keys : (get_or xs i past).0 ≤ (get_or xs j past).0 = grind (arith, ascend i j, λ (q : i ≡ j). ap (λ (k : ℕ). (get_or xs k past).0) q) in
      grind (arith, nat_tests))

  pub found : (k : ℕ) → k < length xs → IsBinarySearchResult (λ e. nat_cmp e.0 c) xs (Ok k) → characters_of (get_or xs k past).1 ≡ maps_to c
  found k h f =
      let here : (get_or xs k past).0 ≡ c = ranked _ c _ (sym (f past)) in
      sym (ap maps_to (sym here ∙ sym (ap from (entry_at k))) ∙ entry_maps k (rw size h) ∙ ap to (entry_at k))

  -- a character that is not found has no entry
  pub missing : (i : ℕ) → IsBinarySearchResult (λ e. nat_cmp e.0 c) xs (Err i) → c ∷ [] ≡ maps_to c
  unfolding maps_to
  missing i f =
      sym (no_entry table c (λ k h e.
      let here : (get_or xs k past).0 ≡ c = sym (ap from (entry_at k)) ∙ e in
      ⊎_elim
      (λ (l : i ≤ k). let w = ranked _ c _ (sym ((f rises).1 k past l (rw (← size) h))) in omega (arith, w, here))
      (λ (l : k < i). let w = ranked _ c _ (sym ((f rises).0 k past (omega arith) l)) in omega (arith, w, here))
      (le_or_lt i k)))
