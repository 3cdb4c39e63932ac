-- The refusals after 1 to 8, and the room that holds the answer. Assumes nothing.
use Rattle.merge.proofs.Names.{ℕ, ◌≤◌, ◌<◌, ◌≡◌, refl, sym, ap, subst, ◌∙◌, List, [], length, length-take-le, arith, le-leb, lt-leb, ◌>>=◌}
use Rattle.merge.proofs.Names.{check-gives, extended, seen, Written, Accepted, Sound}
use mathlib.Core.Bool.{Bool, true, false, ◌&&◌}
use mathlib.Core.Logic.{⊎_elim}
use lib.Dec.{leb}
use Rattle.base.specs.Choice.{when◌then◌else◌}
use Rattle.base.specs.Result.{Result, gives, refused}
use Rattle.base.proofs.Choice.{if_true, if_false, and_both, le_or_lt}
use Rattle.document.specs.Document.{check}
use Rattle.std.specs.Prelude.{Result as Returned, Ok, Err}
use Rattle.refusal.specs.Numbers.{refusal_number, refusal_place}
use Rattle.refusal.specs.declared.Refusal.{Refusal}
use Rattle.buffer.specs.Builder.{fit}
use Rattle.room.proofs.Laws.{extended_in, extended-out}
use Rattle.merge_rules.specs.Merge.{list_of, merged, in_order, merging, Merges, both_lists, first-no-list, second_no-list, TheMerge}
use Rattle.merge_rules.proofs.Laws.{two_lists, the_merge}
use Rattle.merge_sides.specs.InnerSteps.{Ascends, SideIs}
use Rattle.merge_sides.specs.declared.Side.{Side}
use Rattle.merge_sides.specs.declared.Side.TheVariants as side
use Rattle.refusal.specs.declared.Refusal.TheVariants as refusal
use Rattle.merge_items.proofs.Texts.{seen-text}

-- what the code found, by the case of its answer
module _ {s t : List ℕ} {v : Returned (Unit {0}) Refusal} (e : Sound s t v) where
  pub sound_accepted : {u : Unit {0}} → v ≡ Ok u → Accepted s t
  sound_accepted f = subst (λ (v : Returned (Unit {0}) Refusal). Sound s t v) f e

  pub sound-refused : {a : Refusal} → v ≡ Err a → (room : List ℕ) → TheMerge room s t (refused (refusal_number a) (refusal_place a))
  sound-refused f room = the_merge (subst (λ (v : Returned (Unit {0}) Refusal). Sound s t v) f e room)

-- Two lists that 1 to 8 accept: 23

module _ {s t : List ℕ} (cs : check s ≡ gives []) (ct : check t ≡ gives []) {p q : Bool} (x : Ascends s p) (y : Ascends t q) where
  pub first_down : p ≡ false → (room : List ℕ) → Merges room s t (refused 23 0)
  unfolding merging in_order ◌>>=◌ when◌then◌else◌
  first_down u room =
      subst (λ (r : Result (List ℕ)). Merges room s t r) (rw (sym (x.ordered x.list.0 x.list.1) ∙ u)) (both_lists cs ct x.list.1 y.list.1)

  module _ (u : p ≡ true) where
    pub second_down : q ≡ false → (room : List ℕ) → Merges room s t (refused 23 0)
    unfolding merging in_order ◌>>=◌ when◌then◌else◌
    second_down v room =
        subst (λ (r : Result (List ℕ)). Merges room s t r)
        (rw (sym (x.ordered x.list.0 x.list.1) ∙ u, sym (y.ordered y.list.0 y.list.1) ∙ v)) (both_lists cs ct x.list.1 y.list.1)

    pub accepted : q ≡ true → Accepted s t
    accepted v = record {
      sides = record {
        is = x.list.0;
        js = y.list.0;
        first = x.list.1;
        second = y.list.1;
        short = (check-gives s [] cs).0;
        also-short = (check-gives t [] ct).0;
      };
      first = cs;
      second = ct;
      first_up = sym (x.ordered x.list.0 x.list.1) ∙ u;
      second_up = sym (y.ordered y.list.0 y.list.1) ∙ v;
    }

-- the answer by what both sides are
abbrev pub answer_by : Side → Side → Returned (Unit {0}) Refusal
answer_by side.NotAList y = Err refusal.NotAList
answer_by side.NotAscending side.NotAList = Err refusal.NotAList
answer_by side.NotAscending side.NotAscending = Err refusal.NotAscending
answer_by side.NotAscending side.Ascending = Err refusal.NotAscending
answer_by side.Ascending side.NotAList = Err refusal.NotAList
answer_by side.Ascending side.NotAscending = Err refusal.NotAscending
answer_by side.Ascending side.Ascending = Ok tt

module _ (s t : List ℕ) (cs : check s ≡ gives []) (ct : check t ≡ gives []) where
  told : (x y : Side) → SideIs s x → SideIs t y → Sound s t (answer_by x y)
  told side.NotAList y f g = λ room. first-no-list cs ct f
  told side.NotAscending side.NotAList f g = λ room. second_no-list cs ct f.list g
  told side.NotAscending side.NotAscending f g = first_down cs ct f g refl
  told side.NotAscending side.Ascending f g = first_down cs ct f g refl
  told side.Ascending side.NotAList f g = λ room. second_no-list cs ct f.list g
  told side.Ascending side.NotAscending f g = second_down cs ct f g refl refl
  told side.Ascending side.Ascending f g = accepted cs ct f g refl refl

  pub sides_told : {x y : Side} → (length s ≤ 32768 → SideIs s x) → (length t ≤ 32768 → SideIs t y) → (i j : Side) → x ≡ i → y ≡ j
      → Sound s t (answer_by i j)
  sides_told f g i j p q =
      told i j (subst (SideIs s) p (f (check-gives s [] cs).0)) (subst (SideIs t) q (g (check-gives t [] ct).0))

both_up : {s t : List ℕ} (a : Accepted s t) (room : List ℕ) → TheMerge room s t (fit room (list_of (merged a.sides.is a.sides.js)))
both_up a room = the_merge (two_lists {room = room} a.first a.second a.sides.first a.sides.second a.first_up a.second_up)

-- '13 for the result, also when it exceeds 32,768 bytes': by the length that was written

module _ (room x : List ℕ) where
  fits : length x ≤ length room → length x ≤ 32768 → fit room x ≡ gives x
  unfolding fit
  fits h k = if_true _ _ (and_both (le-leb (length x) (length room) h) (le-leb (length x) 32768 k))

  past_room : length room < length x → fit room x ≡ refused 13 0
  unfolding fit
  past_room h = if_false _ _ (ap (λ (b : Bool). b && leb (length x) 32768) (lt-leb (length x) (length room) h))

  past_limit : length x ≤ length room → 32768 < length x → fit room x ≡ refused 13 0
  unfolding fit
  past_limit h k =
      if_false _ _ (ap (λ (b : Bool). b && leb (length x) 32768) (le-leb (length x) (length room) h) ∙ lt-leb (length x) 32768 k)

  module _ (new : List ℕ) (len : ℕ) (w : seen new len ≡ extended (length room) x []) where
    given : length x ≤ length room → seen new len ≡ gives x
    given h = w ∙ extended_in (length room) x [] (omega arith)

    given-length : length x ≤ length room → length x ≡ len
    given-length h = let e = seen-text new len x (given h) in sym (ap length e.1) ∙ length-take-le len new e.0

    pub short-seen : len ≤ 32768 → seen new len ≡ fit room x
    short-seen k =
        ⊎_elim (λ (h : length x ≤ length room). given h ∙ sym (fits h (omega (arith, given-length h))))
        (λ (h : length room < length x). w ∙ extended-out (length room) x [] (omega arith) ∙ sym (past_room h)) (le_or_lt (length x) (length room))

    pub long_refused : 32768 < len → fit room x ≡ refused 13 0
    long_refused k =
        ⊎_elim (λ (h : length x ≤ length room). past_limit h (omega (arith, given-length h))) (λ (h : length room < length x). past_room h)
        (le_or_lt (length x) (length room))

-- the answer, after the list was written
module _ {room s t : List ℕ} (a : Accepted s t) (new : List ℕ) (len : ℕ) (w : Written s t room new len) where
  here : seen new len ≡ extended (length room) (list_of (merged a.sides.is a.sides.js)) []
  here = w.writes a.sides.is a.sides.js a.sides.first a.sides.second

  pub too_long : 32768 < len → TheMerge room s t (refused 13 0)
  too_long h = subst (λ (r : Result (List ℕ)). TheMerge room s t r) (long_refused room _ new len here h) (both_up a room)

  pub fits_there : (r : Result (List ℕ)) → len ≤ 32768 → r ≡ seen new len → TheMerge room s t r
  fits_there r h e = subst (λ (r : Result (List ℕ)). TheMerge room s t r) (sym (e ∙ short-seen room _ new len here h)) (both_up a room)
