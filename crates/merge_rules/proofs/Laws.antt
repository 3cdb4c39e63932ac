-- 02's answer is settled by its rules, and what holds of a result that is given. Assumes nothing.
use Rattle.merge_rules.proofs.Names.{ℕ, ◌≤◌, ◌≡◌, refl, sym, ap, ap₂, subst, ◌∙◌, true, List, [], length, le-leb, when◌then◌else◌, Result, gives}
use Rattle.merge_rules.proofs.Names.{refused, ◌>>=◌, if_true, and_both, bind_gives, if_gives, gives_same, refused-gives, printing_order, check}
use Rattle.merge_rules.proofs.Names.{check-gives, fit, Item, list_of, Lists, IsList, ascending, merged, printed, in_order, merging, Merges, TheMerge}
use Rattle.merge_rules.proofs.Names.{first-refused, second_refused, first-no-list, second_no-list, both_lists}
use Rattle.merge_rules.proofs.Merged.{Ascends, ascending_ascends, merged_ascends, merged_itself, merged-left, merged-right}
use Rattle.merge_rules.proofs.Listed.{result_lists, result_items, result_check, printed-list}
use Rattle.merge_rules.proofs.Ends.{one_list}

-- The rules settle one answer: each case excludes those after it, and gives one value

module _ {room s t : List ℕ} where
  by-first-refused : {n p : ℕ} {b : Result (List ℕ)} → check s ≡ refused n p → Merges room s t b → refused n p ≡ b
  by-first-refused e (first-refused f) = sym e ∙ f
  by-first-refused e (second_refused c f) = absurd (refused-gives (sym e ∙ c))
  by-first-refused e (first-no-list c d n) = absurd (refused-gives (sym e ∙ c))
  by-first-refused e (second_no-list c d l n) = absurd (refused-gives (sym e ∙ c))
  by-first-refused e (both_lists c d l k) = absurd (refused-gives (sym e ∙ c))

  by_second_refused : {n p : ℕ} {b : Result (List ℕ)} → check s ≡ gives [] → check t ≡ refused n p → Merges room s t b → refused n p ≡ b
  by_second_refused c e (first-refused f) = absurd (refused-gives (sym f ∙ c))
  by_second_refused c e (second_refused d f) = sym e ∙ f
  by_second_refused c e (first-no-list f d n) = absurd (refused-gives (sym e ∙ d))
  by_second_refused c e (second_no-list f d l n) = absurd (refused-gives (sym e ∙ d))
  by_second_refused c e (both_lists f d l k) = absurd (refused-gives (sym e ∙ d))

  module _ (c : check s ≡ gives []) (d : check t ≡ gives []) where
    by-first-no-list : {b : Result (List ℕ)} → (IsList s → ⊥) → Merges room s t b → refused 22 0 ≡ b
    by-first-no-list n (first-refused f) = absurd (refused-gives (sym f ∙ c))
    by-first-no-list n (second_refused e f) = absurd (refused-gives (sym f ∙ d))
    by-first-no-list n (first-no-list e f m) = refl
    by-first-no-list n (second_no-list e f l m) = refl
    by-first-no-list n (both_lists {is = is} e f l k) = absurd (n (is, l))

    by_second_no-list : {b : Result (List ℕ)} → (IsList t → ⊥) → Merges room s t b → refused 22 0 ≡ b
    by_second_no-list n (first-refused f) = absurd (refused-gives (sym f ∙ c))
    by_second_no-list n (second_refused e f) = absurd (refused-gives (sym f ∙ d))
    by_second_no-list n (first-no-list e f m) = refl
    by_second_no-list n (second_no-list e f l m) = refl
    by_second_no-list n (both_lists {js = js} e f l k) = absurd (n (js, k))

    by_both_lists : {is js : List Item} {b : Result (List ℕ)} → Lists s is → Lists t js → Merges room s t b → merging room is js ≡ b
    by_both_lists x y (first-refused f) = absurd (refused-gives (sym f ∙ c))
    by_both_lists x y (second_refused e f) = absurd (refused-gives (sym f ∙ d))
    by_both_lists {is = is} x y (first-no-list e f n) = absurd (n (is, x))
    by_both_lists {js = js} x y (second_no-list e f l n) = absurd (n (js, y))
    by_both_lists x y (both_lists e f l k) = ap₂ (λ (u v : List Item). merging room u v) (one_list x l) (one_list y k)

-- two answers that hold are the same
pub one_answer : {room s t : List ℕ} {a b : Result (List ℕ)} → Merges room s t a → Merges room s t b → a ≡ b
one_answer (first-refused e) m = by-first-refused e m
one_answer (second_refused c e) m = by_second_refused c e m
one_answer (first-no-list c d n) m = by-first-no-list c d n m
one_answer (second_no-list c d l n) m = by_second_no-list c d n m
one_answer (both_lists c d l k) m = by_both_lists c d l k m

-- Two sides that are such lists

module _ {room s t : List ℕ} {is js : List Item} (cs : check s ≡ gives []) (ct : check t ≡ gives []) (ls : Lists s is) (lt : Lists t js)
    (us : ascending is ≡ true) (ut : ascending js ≡ true) where
  pub two_lists : Merges room s t (fit room (list_of (merged is js)))
  unfolding merging in_order ◌>>=◌ when◌then◌else◌
  two_lists = subst (λ (r : Result (List ℕ)). Merges room s t r) (rw (us, ut)) (both_lists cs ct ls lt)

-- merged with itself, given room for it, a list is given back
pub itself : (room s : List ℕ) (is : List Item) → check s ≡ gives [] → Lists s is → ascending is ≡ true → length s ≤ length room → Merges room s s (gives s)
unfolding fit
itself room s is c l a h =
    subst (λ (r : Result (List ℕ)). Merges room s s r)
    (ap (fit room) (ap list_of (merged_itself is) ∙ sym l.bytes)
    ∙ if_true _ _ (and_both (le-leb (length s) (length room) h) (le-leb (length s) 32768 (check-gives s [] c).0)))
    (two_lists {room = room} c c l l a a)

-- merged with a list that has no item, given room for it, a list is given back
module _ (room s t : List ℕ) (is : List Item) (cs : check s ≡ gives []) (ct : check t ≡ gives []) (l : Lists s is) (m : Lists t []) (a : ascending is ≡ true)
    (h : length s ≤ length room) where
  back : (js : List Item) → js ≡ is → fit room (list_of js) ≡ gives s
  unfolding fit
  back js e =
      ap (fit room) (ap list_of e ∙ sym l.bytes)
      ∙ if_true _ _ (and_both (le-leb (length s) (length room) h) (le-leb (length s) 32768 (check-gives s [] cs).0))

  pub none_second : Merges room s t (gives s)
  unfolding ascending
  none_second = subst (λ (r : Result (List ℕ)). Merges room s t r) (back (merged is []) (merged-left is)) (two_lists {room = room} cs ct l m a refl)

  pub none_first : Merges room t s (gives s)
  unfolding ascending
  none_first = subst (λ (r : Result (List ℕ)). Merges room t s r) (back (merged [] is) (merged-right is)) (two_lists {room = room} ct cs m l refl a)

-- What is given

pub record Given (room s t x : List ℕ) : Type 0 where
  pub is : List Item
  pub js : List Item
  pub first : Lists s is
  pub second : Lists t js
  pub first_up : Ascends is
  pub second_up : Ascends js
  pub result : Lists x (merged is js)
  pub up : Ascends (merged is js)
  pub accepted : check x ≡ gives []
  pub prints : printing_order x ≡ printed (merged is js)

in_order_lem : (is js : List Item) → in_order is ≡ gives js → (ascending is ≡ true) × (js ≡ is)
unfolding in_order
in_order_lem is js e = let f = if_gives (ascending is) (gives is) _ _ js e in (f.0, sym (gives_same f.1))

fits_same : (room y x : List ℕ) → fit room y ≡ gives x → y ≡ x
unfolding fit
fits_same room y x e = gives_same (if_gives _ (gives y) _ _ x e).1

-- the result is such a list again, ascending, accepted by 1 to 8, and prints what the kept items print
pub given : {room s t x : List ℕ} → Merges room s t (gives x) → Given room s t x
unfolding merging ◌>>=◌
given {room} {s} {t} {x} m = of m refl
  where
    of : {r : Result (List ℕ)} → Merges room s t r → r ≡ gives x → Given room s t x
    of (first-refused f) e = absurd (refused-gives e)
    of (second_refused c f) e = absurd (refused-gives e)
    of (first-no-list c d n) e = absurd (refused-gives e)
    of (second_no-list c d l n) e = absurd (refused-gives e)
    of (both_lists {is = is} {js = js} cs ct l k) e =
        let f = bind_gives (in_order is) _ x e in
        let g = bind_gives (in_order js) _ x f.2 in
        let p = in_order_lem is f.0 f.1 in
        let q = in_order_lem js g.0 g.1 in
        let r : fit room (list_of (merged is js)) ≡ gives x = ap₂ (λ (u v : List Item). fit room (list_of (merged u v))) (sym p.1) (sym q.1) ∙ g.2 in
        let y : list_of (merged is js) ≡ x = fits_same room (list_of (merged is js)) x r in
        record {
          is = is;
          js = js;
          first = l;
          second = k;
          first_up = ascending_ascends is p.0;
          second_up = ascending_ascends js q.0;
          result = subst (λ (z : List ℕ). Lists z (merged is js)) y (result_lists cs ct l k);
          up = merged_ascends is js (ascending_ascends is p.0) (ascending_ascends js q.0);
          accepted = result_check cs ct l k room x r;
          prints = ap printing_order (sym y) ∙ printed-list (merged is js) (result_items cs ct l k);
        }

-- the answer on two sides, by any that holds
pub the_merge : {room s t : List ℕ} {r : Result (List ℕ)} → Merges room s t r → TheMerge room s t r
the_merge m = record { holds = m; alone = λ q n. one_answer n m }
