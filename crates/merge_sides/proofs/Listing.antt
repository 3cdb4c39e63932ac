-- The test whether a document is a list: an item by the bytes around its term and its body, and the list by its items. Assumes nothing.
use Rattle.merge_sides.proofs.Names.{ℕ, ◌+◌, ◌-◌, ◌≤◌, ◌<◌, ◌≡◌, refl, sym, ap, subst, ◌∙◌, Bool, true, false, ◌&&◌, false≢true, List, [], ◌∷◌, ◌++◌}
use Rattle.merge_sides.proofs.Names.{append_assoc, length, take, drop, length-drop, drop_of_length-le, take-append-drop, drop-drop, drop_at, take_at}
use Rattle.merge_sides.proofs.Names.{length-take-le, arith, eq-eqb, part, and_both, start, end, around_alone, around_then, Stands, Tells}
use Rattle.merge_sides.proofs.Names.{length-records}
use Rattle.merge_sides.specs.InnerSteps.{framed, term_start, term_body, end_of_body}
use Rattle.base.proofs.Choice.{and_left, and_right}
use borrow.Author.Tests.{le-leb, leb-true}
use lib.Dec.{leb}
use Rattle.base.specs.Bytes.{starts_with}
use Rattle.base.proofs.Prefix.{starts-split}
use Rattle.records.specs.Stored.{little_bytes, stored, around}
use Rattle.records.specs.declared.Block.TheVariants as block
use Rattle.shape.specs.Shape.{parts, inlines}
use Rattle.merge_rules.specs.Merge.{Item, records, all_records, list_of, Proper, Filled, Lists, IsList}
use Rattle.merge_rules.specs.Merge as merge
use Rattle.merge_items.specs.InnerSteps.{Found, place_of}
use Rattle.merge_items.proofs.Reading.{some_place, none-place}
use Rattle.std.specs.Prelude.{Some, None}
use Rattle.merge_items.specs.declared.Place.{Place}
use Rattle.merge_sides.proofs.Sides.{Rest, rest_0, list_length, starts-list, Taken, taken, no_more}

-- an answer and its fact
pub tells_yes : {P : Type 0} (r : Bool) → Tells P r → r ≡ true → P
tells_yes true t e = t
tells_yes false t e = absurd (false≢true e)

pub tells_no : {P : Type 0} (r : Bool) → Tells P r → r ≡ false → P → ⊥
tells_no true t e = absurd (false≢true (sym e))
tells_no false t e = t

pub tells-not : {P : Type 0} (r : Bool) → r ≡ false → (P → ⊥) → Tells P r
tells-not true e n = absurd (false≢true (sym e))
tells-not false e n = n

-- The bytes of a list's start and of its end

abbrev pub list_start : List ℕ
list_start = 0 ∷ 0 ∷ 0 ∷ 0 ∷ 6 ∷ 1 ∷ []

abbrev pub list_end : List ℕ
list_end = 0 ∷ 0 ∷ 0 ∷ 0 ∷ 6 ∷ 2 ∷ []

list-start : start block.DefinitionList ≡ list_start
unfolding start stored little_bytes
list-start = refl

list-end : end block.DefinitionList ≡ list_end
unfolding end stored little_bytes
list-end = refl

-- an item's bytes
flat : (i : Item) (w : List ℕ) → records i ++ w ≡ term_start ++ (i.term ++ (term_body ++ (i.body ++ (end_of_body ++ w))))
unfolding records start end stored little_bytes
flat i w =
    append_assoc (around block.ItemTerm i.term) (around block.ItemBody i.body) w
    ∙ around_then block.ItemTerm i.term (around block.ItemBody i.body ++ w)
    ∙ ap (λ (x : List ℕ). term_start ++ (i.term ++ (end block.ItemTerm ++ x))) (around_then block.ItemBody i.body w)

-- Bytes at a place

starts-append : (p w : List ℕ) → starts_with p (p ++ w) ≡ true
unfolding starts_with
starts-append [] w = refl
starts-append (x ∷ p) w = and_both (eq-eqb x x refl) (starts-append p w)

starts_at : {l : List ℕ} (p w : List ℕ) → l ≡ p ++ w → starts_with p l ≡ true
starts_at p w e = ap (starts_with p) e ∙ starts-append p w

-- what follows some bytes that stand at a place
passed : (s : List ℕ) (at n : ℕ) (x w : List ℕ) → drop at s ≡ x ++ w → length x ≡ n → drop (at + n) s ≡ w
passed s at n x w e l = sym (drop-drop n at s) ∙ ap (drop n) e ∙ drop_at x w n l

has_at : (s p : List ℕ) (at n : ℕ) → length p ≡ n → starts_with p (drop at s) ≡ true → drop at s ≡ p ++ drop (at + n) s
has_at s p at n l e = starts-split p (drop at s) e ∙ ap (λ (x : List ℕ). p ++ x) (ap (λ (k : ℕ). drop k (drop at s)) l ∙ drop-drop n at s)

cut : (s : List ℕ) (a b : ℕ) → a ≤ b → drop a s ≡ part s a b ++ drop b s
cut s a b h =
    let n : a + (b - a) ≡ b = omega arith in
    sym (take-append-drop (b - a) (drop a s)) ∙ ap (λ (x : List ℕ). part s a b ++ x) (drop-drop (b - a) a s ∙ ap (λ (k : ℕ). drop k s) n)

-- An item stands there: what the code tests holds

module _ {s : List ℕ} {at stop next : ℕ} (st : Stands s at stop next) where
  abbrev T : List ℕ
  T = st.item.term

  abbrev B : List ℕ
  B = st.item.body

  whole : drop at s ≡ term_start ++ (T ++ (term_body ++ (B ++ (end_of_body ++ drop next s))))
  whole = st.bytes ∙ flat st.item (drop next s)

  in_term : drop (at + 6) s ≡ T ++ (term_body ++ (B ++ (end_of_body ++ drop next s)))
  in_term = passed s at 6 term_start _ whole refl

  at_stop : drop stop s ≡ term_body ++ (B ++ (end_of_body ++ drop next s))
  at_stop = ap (λ (k : ℕ). drop k s) st.term-end ∙ passed s (at + 6) (length T) T _ in_term refl

  in_body : drop (stop + 12) s ≡ B ++ (end_of_body ++ drop next s)
  in_body = passed s stop 12 term_body _ at_stop refl

  body_end : next - 6 ≡ stop + 12 + length B
  body_end = omega (arith, st.term-end, st.item_end, length-records st.item)

  pub stop-low : at + 6 ≤ stop
  stop-low = omega (arith, st.term-end)

  pub next_low : stop + 18 ≤ next
  next_low = omega (arith, st.term-end, st.item_end, length-records st.item)

  starts-term : starts_with term_start (drop at s) ≡ true
  starts-term = starts_at term_start _ whole

  starts-body : starts_with term_body (drop stop s) ≡ true
  starts-body = starts_at term_body _ at_stop

  ends_body : starts_with end_of_body (drop (next - 6) s) ≡ true
  ends_body = starts_at end_of_body (drop next s) (ap (λ (k : ℕ). drop k s) body_end ∙ passed s (stop + 12) (length B) B _ in_body refl)

  pub frame : framed s at stop next ≡ true
  frame = and_both (le-leb _ _ stop-low) (and_both (le-leb _ _ next_low) (and_both starts-term (and_both starts-body ends_body)))

  pub term-filled : Filled inlines (part s (at + 6) stop)
  term-filled =
      let n : stop - (at + 6) ≡ length T = omega (arith, st.term-end) in
      subst (λ (x : List ℕ). Filled inlines x) (sym (ap (λ (k : ℕ). take k (drop (at + 6) s)) n ∙ ap (take (length T)) in_term ∙ take_at T _ (length T) refl))
      st.proper.term

  pub body-filled : Filled parts (part s (stop + 12) (next - 6))
  body-filled =
      let n : next - 6 - (stop + 12) ≡ length B = omega (arith, body_end) in
      subst (λ (x : List ℕ). Filled parts x)
      (sym (ap (λ (k : ℕ). take k (drop (stop + 12) s)) n ∙ ap (take (length B)) in_body ∙ take_at B _ (length B) refl)) st.proper.body

-- and what it tests suffices

module _ (s : List ℕ) (at stop next : ℕ) (e : framed s at stop next ≡ true) where
  e₂ : (leb (stop + 18) next && (starts_with term_start (drop at s)
      && (starts_with term_body (drop stop s) && starts_with end_of_body (drop (next - 6) s)))) ≡ true
  e₂ = and_right (leb (at + 6) stop) _ e

  e₃ : (starts_with term_start (drop at s) && (starts_with term_body (drop stop s) && starts_with end_of_body (drop (next - 6) s))) ≡ true
  e₃ = and_right (leb (stop + 18) next) _ e₂

  e₄ : (starts_with term_body (drop stop s) && starts_with end_of_body (drop (next - 6) s)) ≡ true
  e₄ = and_right (starts_with term_start (drop at s)) _ e₃

  pub frame_low : at + 6 ≤ stop
  frame_low = leb-true (at + 6) stop (and_left (leb (at + 6) stop) _ e)

  pub frame_high : stop + 18 ≤ next
  frame_high = leb-true (stop + 18) next (and_left (leb (stop + 18) next) _ e₂)

  a : starts_with term_start (drop at s) ≡ true
  a = and_left (starts_with term_start (drop at s)) _ e₃

  b : starts_with term_body (drop stop s) ≡ true
  b = and_left (starts_with term_body (drop stop s)) _ e₄

  d : starts_with end_of_body (drop (next - 6) s) ≡ true
  d = and_right (starts_with term_body (drop stop s)) _ e₄

module _ (s : List ℕ) (at stop next : ℕ) (e : framed s at stop next ≡ true) (l : next ≤ length s) (f : Filled inlines (part s (at + 6) stop)) where
  h : at + 6 ≤ stop
  h = frame_low s at stop next e

  k : stop + 18 ≤ next
  k = frame_high s at stop next e

  abbrev here : Item
  here = record { term = part s (at + 6) stop; body = part s (stop + 12) (next - 6) }

  length_part : (from to : ℕ) → from ≤ to → to ≤ length s → length (part s from to) ≡ to - from
  length_part from to x y = length-take-le (to - from) (drop from s) (omega (arith, length-drop from s))

  bytes : drop at s ≡ records here ++ drop next s
  bytes =
      let n : next - 6 + 6 ≡ next = omega (arith, k) in
      has_at s term_start at 6 refl (a s at stop next e)
      ∙ ap (λ (x : List ℕ). term_start ++ x) (cut s (at + 6) stop h
      ∙ ap (λ (x : List ℕ). here.term ++ x) (has_at s term_body stop 12 refl (b s at stop next e)
      ∙ ap (λ (x : List ℕ). term_body ++ x) (cut s (stop + 12) (next - 6) (omega (arith, k))
      ∙ ap (λ (x : List ℕ). here.body ++ x) (has_at s end_of_body (next - 6) 6 refl (d s at stop next e) ∙ ap (λ (m : ℕ). end_of_body ++ drop m s) n))))
      ∙ sym (flat here (drop next s))

  pub stands_there : Filled parts (part s (stop + 12) (next - 6)) → Stands s at stop next
  stands_there g = record {
    item = here;
    proper = record { term = f; body = g };
    bytes = bytes;
    term-end = omega (arith, h, length_part (at + 6) stop h (omega (arith, k)));
    item_end = omega (
      arith,
      h,
      k,
      length-records here,
      length_part (at + 6) stop h (omega (arith, k)),
      length_part (stop + 12) (next - 6) (omega (arith, k)) (omega arith),
    );
  }

  pub stands-by-body : (r : Bool) → Tells (Filled parts (part s (stop + 12) (next - 6))) r → Tells (Stands s at stop next) r
  stands-by-body true g = stands_there g
  stands-by-body false g = λ st. g (body-filled st)

-- where the term is not such, no item stands there
pub stands-by-term : (s : List ℕ) (at stop next : ℕ) (r : Bool) → r ≡ false → Tells (Filled inlines (part s (at + 6) stop)) r
    → Tells (Stands s at stop next) r
stands-by-term s at stop next true e t = absurd (false≢true (sym e))
stands-by-term s at stop next false e t = λ st. t (term-filled st)

-- The list: it is one exactly if from a place on items and the end record follow

pub record Listing (s : List ℕ) (at : ℕ) : Type 0 where
  pub yes : (is : List Item) → Rest s at is → IsList s
  pub no : (is : List Item) → Lists s is → (js : List Item) × Rest s at js
  pub high : at + 6 ≤ length s

pub short-not : (s : List ℕ) → length s < 12 → IsList s → ⊥
short-not s h l = let n = list_length s l.0 l.1 in omega arith

pub start-not : (s : List ℕ) → starts_with list_start (drop 0 s) ≡ false → IsList s → ⊥
start-not s e l = false≢true
    (sym e ∙ starts_at list_start _ (starts-list s l.0 l.1 ∙ ap (λ (x : List ℕ). x ++ (all_records l.0 ++ end block.DefinitionList)) list-start))

pub listing_0 : (s : List ℕ) → 12 ≤ length s → starts_with list_start (drop 0 s) ≡ true → Listing s 6
unfolding list_of
listing_0 s h e = record {
  yes = λ is r. (
    is,
    record {
      bytes = has_at s list_start 0 6 refl e ∙ ap (λ (x : List ℕ). x ++ drop 6 s) (sym list-start)
          ∙ ap (λ (x : List ℕ). start block.DefinitionList ++ x) r.bytes
          ∙ sym (around_alone block.DefinitionList (all_records is));
      proper = r.proper;
    },
  );
  no = λ is l. (is, rest_0 s is l);
  high = omega arith;
}

module _ {s : List ℕ} {at : ℕ} (g : Listing s at) where
  -- no item was found
  pub none-not : Found s at None → at < length s - 6 → IsList s → ⊥
  none-not f h l =
      let t = taken s at 0 _ (g.no l.0 l.1).1 (λ i w q e. absurd (none-place (f.item i w q e))) h in omega (arith, t.on)

  module _ (p : Place) (f : Found s at (Some p)) (h : at < length s - 6) where
    place_is : (i : Item) (w : List ℕ) → Proper i → drop at s ≡ records i ++ w → p ≡ place_of i at
    place_is i w q e = some_place (f.item i w q e)

    next_taken : (l : IsList s) → Taken s at p.next (g.no l.0 l.1).0
    next_taken l = taken s at p.next _ (g.no l.0 l.1).1 (λ i w q e. ap (λ (x : Place). x.next) (place_is i w q e)) h

    pub past-not : length s - 6 < p.next → IsList s → ⊥
    past-not k l = let t = next_taken l in omega (arith, t.inside)

    pub stands-not : (Stands s at p.stop p.next → ⊥) → IsList s → ⊥
    stands-not n l =
        let t = next_taken l in
        let e = place_is t.item _ t.proper t.here in
        n (record {
          item = t.item;
          proper = t.proper;
          bytes = t.here ∙ ap (λ (x : List ℕ). records t.item ++ x) (sym t.after.bytes);
          term-end = ap (λ (x : Place). x.stop) e;
          item_end = ap (λ (x : Place). x.next) e;
        })

    pub listing_next : Stands s at p.stop p.next → p.next ≤ length s - 6 → Listing s p.next
    unfolding all_records
    listing_next st k = record {
      yes = λ is r. g.yes (st.item ∷ is) (record {
        bytes = st.bytes ∙ ap (λ (x : List ℕ). records st.item ++ x) r.bytes
            ∙ sym (append_assoc (records st.item) (all_records is) (end block.DefinitionList));
        proper = merge.also st.proper r.proper;
        inside = omega arith;
      });
      no = λ is l. let t = next_taken (is, l) in (t.others, t.after);
      high = omega arith;
    }

  module _ (h : length s - 6 ≤ at) where
    last : length s - 6 ≡ at
    last = omega (arith, g.high)

    end-yes : starts_with list_end (drop (length s - 6) s) ≡ true → IsList s
    unfolding all_records
    end-yes e =
        let n : length s ≤ length s - 6 + 6 = omega (arith, g.high) in
        g.yes [] (record {
          bytes = ap (λ (k : ℕ). drop k s) (sym last) ∙ has_at s list_end (length s - 6) 6 refl e ∙ ap (λ (x : List ℕ). list_end ++ x) (drop_of_length-le s n)
              ∙ sym list-end;
          proper = merge.none;
          inside = omega (arith, g.high);
        })

    end-not : starts_with list_end (drop (length s - 6) s) ≡ false → IsList s → ⊥
    unfolding all_records
    end-not e l =
        let r = (g.no l.0 l.1).1 in
        let n = no_more s at _ r h in
        let d : drop at s ≡ list_end ++ [] = r.bytes ∙ ap (λ (x : List Item). all_records x ++ end block.DefinitionList) n ∙ list-end in
        false≢true (sym e ∙ ap (λ (k : ℕ). starts_with list_end (drop k s)) last ∙ starts_at list_end [] d)

    pub listing_end : (r : Bool) → r ≡ starts_with list_end (drop (length s - 6) s) → Tells (IsList s) r
    listing_end true e = end-yes (sym e)
    listing_end false e = end-not (sym e)
