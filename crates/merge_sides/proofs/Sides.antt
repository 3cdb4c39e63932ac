-- The way through a side, item by item, and the order of its terms. Assumes nothing.
use Rattle.merge_sides.proofs.Names.{ℕ, ◌+◌, ◌-◌, ◌≤◌, ◌<◌, ◌≡◌, refl, sym, ap, ap₂, ◌∙◌, Bool, true, false, ◌&&◌, List, [], ◌∷◌, ◌++◌, append_assoc}
use Rattle.merge_sides.proofs.Names.{length, take, drop, length-append, length-drop, drop-drop, drop_at, take_at, arith, part}
use Rattle.merge_sides.proofs.Names.{start, end, around_alone, Climbs, length-records, Holding, Reads}
use Rattle.records.specs.declared.Block.TheVariants as block
use Rattle.buffer_doc.proofs.Adding.{length-start, length-end, length-around}
use Rattle.merge_rules.specs.Merge.{compared, is_less, Item, key, records, all_records, list_of, Proper, Each, Lists, ascending}
use Rattle.std.specs.declared.cmp.Ordering.{Ordering}
use Rattle.std.specs.declared.cmp.Ordering.TheVariants.{Less, Equal, Greater}
use Rattle.std.specs.Ordering.{is_lt}
use Rattle.merge_rules.proofs.Merged.{head_of, tail_of}
use Rattle.merge_rules.proofs.Ends.{one_list}
use Rattle.merge_items.proofs.Texts.{seen-text}
use Rattle.merge_items.specs.declared.Items.{Items}

-- From a place on a side has these items, and then the list's end record.
pub record Rest (s : List ℕ) (at : ℕ) (is : List Item) : Type 0 where
  pub bytes : drop at s ≡ all_records is ++ end block.DefinitionList
  pub proper : Each Proper is
  pub inside : at ≤ length s

pub rest-length : (s : List ℕ) (at : ℕ) (is : List Item) → Rest s at is → at + length (all_records is) + 6 ≡ length s
rest-length s at is r =
    let i = r.inside in
    omega (arith, ap length r.bytes, length-drop at s, length-append (all_records is) (end block.DefinitionList), length-end block.DefinitionList)

pub list_length : (s : List ℕ) (is : List Item) → Lists s is → 12 ≤ length s
unfolding list_of
list_length s is l = omega (arith, ap length l.bytes, length-around block.DefinitionList (all_records is))

pub starts-list : (s : List ℕ) (is : List Item) → Lists s is → s ≡ start block.DefinitionList ++ (all_records is ++ end block.DefinitionList)
unfolding list_of
starts-list s is l = l.bytes ∙ around_alone block.DefinitionList (all_records is)

pub rest_0 : (s : List ℕ) (is : List Item) → Lists s is → Rest s 6 is
rest_0 s is l = record {
  bytes = ap (drop 6) (starts-list s is l)
      ∙ drop_at (start block.DefinitionList) (all_records is ++ end block.DefinitionList) 6 (length-start block.DefinitionList);
  proper = l.proper;
  inside = omega (arith, list_length s is l);
}

pub start_0 : (s : List ℕ) (is : List Item) → Lists s is → take 6 s ≡ start block.DefinitionList
start_0 s is l = ap (take 6) (starts-list s is l)
    ∙ take_at (start block.DefinitionList) (all_records is ++ end block.DefinitionList) 6 (length-start block.DefinitionList)

-- The item at a place

pub record Taken (s : List ℕ) (at next : ℕ) (is : List Item) : Type 0 where
  pub item : Item
  pub others : List Item
  pub split : is ≡ item ∷ others
  pub proper : Proper item
  pub here : drop at s ≡ records item ++ (all_records others ++ end block.DefinitionList)
  pub on : at < next
  pub inside : next + 6 ≤ length s
  pub bytes : part s at next ≡ records item
  pub after : Rest s next others

pub taken : (s : List ℕ) (at next : ℕ) (is : List Item) → Rest s at is
    → ((i : Item) (w : List ℕ) → Proper i → drop at s ≡ records i ++ w → next ≡ at + length (records i)) → at < length s - 6 → Taken s at next is
unfolding all_records
taken s at next [] r f h = absurd (omega (arith, rest-length s at [] r))
taken s at next (i ∷ is) r f h =
    let w = all_records is ++ end block.DefinitionList in
    let e : drop at s ≡ records i ++ w = r.bytes ∙ append_assoc (records i) (all_records is) (end block.DefinitionList) in
    let p = head_of r.proper in
    let g = f i w p e in
    let n = rest-length s at (i ∷ is) r in
    let l : length (all_records (i ∷ is)) ≡ length (records i) + length (all_records is) = length-append (records i) (all_records is) in
    let k = length-records i in
    let m : next - at ≡ length (records i) = omega (arith, g) in
    record {
      item = i;
      others = is;
      split = refl;
      proper = p;
      here = e;
      on = omega (arith, g);
      inside = omega (arith, g);
      bytes = ap₂ take m e ∙ take_at (records i) w (length (records i)) refl;
      after = record {
        bytes = ap (λ (x : ℕ). drop x s) g ∙ sym (drop-drop (length (records i)) at s) ∙ ap (drop (length (records i))) e
            ∙ drop_at (records i) w (length (records i)) refl;
        proper = tail_of r.proper;
        inside = omega (arith, g);
      };
    }

pub no_more : (s : List ℕ) (at : ℕ) (is : List Item) → Rest s at is → length s - 6 ≤ at → is ≡ []
unfolding all_records
no_more s at [] r h = refl
no_more s at (i ∷ is) r h = absurd (omega (arith, rest-length s at (i ∷ is) r, length-append (records i) (all_records is), length-records i))

-- the same by what was read there
module _ {s : List ℕ} {at next len : ℕ} {text : List ℕ} {is : List Item} (k : Holding s at next text len) where
  pub taken_keyed : Rest s at is → at < length s - 6 → Taken s at next is
  taken_keyed r h = taken s at next is r (λ i w p e. (k.item i w p e).0) h

  pub keyed_text : (t : Taken s at next is) → take len text ≡ key t.item
  keyed_text t = (seen-text text len (key t.item) (k.item t.item _ t.proper t.here).1).1

-- The order of a side's terms: of those from a place on, whose first one stands in a key, as of all

pub record Climbing (s : List ℕ) (here : Items) : Type 0 where
  pub all : List Item
  pub listed : Lists s all
  pub is : List Item
  pub rest : Rest s here.at is
  pub reads : Reads s here
  pub same : ascending is ≡ ascending all

pub climbing_0 : {s : List ℕ} {is : List Item} {here : Items} → Lists s is → here.at ≡ 6 → Reads s here → Climbing s here
climbing_0 {s} {is} {here} l e r =
    record { all = is; listed = l; is = is; rest = rw e (rest_0 s is l); reads = r; same = refl }

climbs : {s : List ℕ} {all : List Item} {r : Bool} → Lists s all → r ≡ ascending all → Climbs s r
climbs l e = record { says = λ is m. e ∙ ap ascending (one_list l m) }

module _ {s : List ℕ} {here : Items} (c : Climbing s here) where
  pub climbed : length s - 6 ≤ here.at → Climbs s true
  unfolding ascending
  climbed h = climbs c.listed (sym (ap ascending (no_more s here.at c.is c.rest h)) ∙ c.same)

  pub climbing_taken : here.at < length s - 6 → Taken s here.at here.next c.is
  climbing_taken h = taken_keyed c.reads.keyed c.rest h

  pub climbed_one : here.at < length s - 6 → length s - 6 ≤ here.next → Climbs s true
  unfolding ascending
  climbed_one h k =
      let t = climbing_taken h in
      climbs c.listed (sym (ap ascending (t.split ∙ ap (λ (l : List Item). t.item ∷ l) (no_more s here.next t.others t.after k))) ∙ c.same)

  module _ (after : Items) (h : here.at < length s - 6) (k : after.at < length s - 6) (q : after.at ≡ here.next) (g : Reads s after) where
    pub climbing_second : Taken s after.at after.next (climbing_taken h).others
    climbing_second = taken_keyed g.keyed (rw q (climbing_taken h).after) k

    module _ (o : Ordering) (e : o ≡ compared (take here.key.len here.key.room.now) (take after.key.len after.key.room.now)) where
      step : ascending c.all ≡ (is_less o && ascending (climbing_taken h).others)
      unfolding ascending
      step =
          let t = climbing_taken h in
          let u = climbing_second in
          sym c.same ∙ ap ascending (t.split ∙ ap (λ (l : List Item). t.item ∷ l) u.split)
          ∙ ap₂ (λ (x : Ordering) (l : List Item). is_less x && ascending l)
          (sym (e ∙ ap₂ compared (keyed_text c.reads.keyed t) (keyed_text g.keyed u))) (sym u.split)

      pub climbs_not : is_less o ≡ false → Climbs s false
      climbs_not n = climbs c.listed (sym (step ∙ rw n))

      pub climbing_next : is_less o ≡ true → Climbing s after
      climbing_next y = record {
        all = c.all;
        listed = c.listed;
        is = (climbing_taken h).others;
        rest = rw q (climbing_taken h).after;
        reads = g;
        same = sym (step ∙ rw y);
      }

-- std's test of an order, and the rules'
pub less-lt : (o : Ordering) → is_less o ≡ is_lt o
less-lt Less = refl
less-lt Equal = refl
less-lt Greater = refl
