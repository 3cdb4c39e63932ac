-- Two sides merged into a room, item by item. Assumes nothing.
use Rattle.merge.proofs.Names.{ℕ, ◌-◌, ◌≤◌, ◌<◌, ◌≡◌, sym, ap, ap₂, ◌∙◌, List, length, take, drop, Reads}
use mathlib.Core.List.{◌∷◌, ◌++◌, append_assoc}
use Rattle.base.specs.Bytes.{part}
use Rattle.room.specs.Lent.{Lent, with_bytes}
use Rattle.room.proofs.Lents.{with_bytes_twice}
use Rattle.records.specs.Stored.{start, end}
use Rattle.records.specs.declared.Block.TheVariants as block
use Rattle.merge_rules.specs.Merge.{compared, Item, key, records, all_records, list_of, Lists, merged}
use Rattle.std.specs.declared.cmp.Ordering.{Ordering}
use Rattle.std.specs.declared.cmp.Ordering.TheVariants.{Less, Equal, Greater}
use Rattle.merge_rules.proofs.Whole.{around_alone}
use Rattle.merge_rules.proofs.Merged.{next_less, next-same, next_more, merged-left, merged-right}
use Rattle.merge_rules.proofs.Ends.{one_list}
use Rattle.merge_items.specs.declared.Items.{Items}
use Rattle.merge_sides.proofs.Sides.{Rest, rest_0, start_0, Taken, taken_keyed, keyed_text, no_more}
use Rattle.merge.specs.InnerSteps.{Added}

-- Both sides from their next items on, and a text that, with what is left to merge, is the whole after what stood there.
pub record Going (s t : List ℕ) (old v : Lent) (a b : Items) : Type 0 where
  pub all : List Item
  pub both : List Item
  pub listed : Lists s all
  pub listed_too : Lists t both
  pub is : List Item
  pub js : List Item
  pub first : Rest s a.at is
  pub second : Rest t b.at js
  pub reads : Reads s a
  pub reads_too : Reads t b
  pub writes : with_bytes (all_records (merged is js) ++ end block.DefinitionList) v ≡ with_bytes (list_of (merged all both)) old

-- some bytes were written, others are to follow
after-bytes : (v new whole : Lent) (x y : List ℕ) → new ≡ with_bytes x v → with_bytes (x ++ y) v ≡ whole → with_bytes y new ≡ whole
after-bytes v new whole x y w e = ap (λ (u : Lent). with_bytes y u) w ∙ with_bytes_twice v x y ∙ e

-- an item of a side was written
pub wrote-item : {s : List ℕ} {a : Items} (v : Lent) {new : Lent} {y : List ℕ} → Reads s a → y ≡ part a.document.now a.at a.next → new ≡ with_bytes y v
    → new ≡ with_bytes (part s a.at a.next) v
wrote-item {a} v r e w = w ∙ ap (λ (x : List ℕ). with_bytes x v) (e ∙ ap (λ (d : List ℕ). part d a.at a.next) r.document)

whole-list : (is : List Item) → start block.DefinitionList ++ (all_records is ++ end block.DefinitionList) ≡ list_of is
unfolding list_of
whole-list is = sym (around_alone block.DefinitionList (all_records is))

pub going_0 : {s t : List ℕ} {is js : List Item} {old v : Lent} {a b : Items} → Lists s is → Lists t js → a.at ≡ 6 → b.at ≡ 6 → Reads s a → Reads t b
    → v ≡ with_bytes (take 6 s) old → Going s t old v a b
going_0 {s} {t} {is} {js} {old} {v} l k e f r q w = record {
  all = is;
  both = js;
  listed = l;
  listed_too = k;
  is = is;
  js = js;
  first = rw e (rest_0 s is l);
  second = rw f (rest_0 t js k);
  reads = r;
  reads_too = q;
  writes = after-bytes old v _ (start block.DefinitionList) (all_records (merged is js) ++ end block.DefinitionList)
      (w ∙ ap (λ (x : List ℕ). with_bytes x old) (start_0 s is l)) (ap (λ (x : List ℕ). with_bytes x old) (whole-list (merged is js)));
}

module _ {s t : List ℕ} {old v : Lent} {a b : Items} (g : Going s t old v a b) where
  pub take-first : a.at < length s - 6 → Taken s a.at a.next g.is
  take-first h = taken_keyed g.reads.keyed g.first h

  pub take_second : b.at < length t - 6 → Taken t b.at b.next g.js
  take_second h = taken_keyed g.reads_too.keyed g.second h

  module _ (new : Lent) (h : a.at < length s - 6) (k : b.at < length t - 6)
      (o : Ordering) (e : o ≡ compared (take a.key.len a.key.room.now) (take b.key.len b.key.room.now)) where
    order_is : compared (key (take-first h).item) (key (take_second k).item) ≡ o
    order_is = sym (e ∙ ap₂ compared (keyed_text g.reads.keyed (take-first h)) (keyed_text g.reads_too.keyed (take_second k)))

    -- one item was written, and these are left
    on_with : (x : Item) (ls : List Item) (y : List ℕ) → merged g.is g.js ≡ x ∷ ls → y ≡ records x → new ≡ with_bytes y v
        → with_bytes (all_records ls ++ end block.DefinitionList) new ≡ with_bytes (list_of (merged g.all g.both)) old
    unfolding all_records
    on_with x ls y q r w =
        after-bytes v new _ (records x) (all_records ls ++ end block.DefinitionList) (w ∙ ap (λ (z : List ℕ). with_bytes z v) r)
        (ap (λ (z : List ℕ). with_bytes z v)
        (sym (ap (λ (z : List Item). all_records z ++ end block.DefinitionList) q ∙ append_assoc (records x) (all_records ls) (end block.DefinitionList)))
        ∙ g.writes)

    pub going_less : o ≡ Less → new ≡ with_bytes (part s a.at a.next) v → (a₁ : Items) → a₁.at ≡ a.next → Reads s a₁ → Going s t old new a₁ b
    going_less c w a₁ q r =
        let x = take-first h in
        let y = take_second k in
        record {
          all = g.all;
          both = g.both;
          listed = g.listed;
          listed_too = g.listed_too;
          is = x.others;
          js = g.js;
          first = rw q x.after;
          second = g.second;
          reads = r;
          reads_too = g.reads_too;
          writes = on_with x.item (merged x.others g.js) (part s a.at a.next)
              (ap₂ merged x.split y.split ∙ next_less x.item y.item x.others y.others (order_is ∙ c)
              ∙ ap (λ (l : List Item). x.item ∷ merged x.others l) (sym y.split)) x.bytes w;
        }

    pub going_same : o ≡ Equal → new ≡ with_bytes (part s a.at a.next) v → (a₁ b₁ : Items) → a₁.at ≡ a.next → b₁.at ≡ b.next → Reads s a₁ → Reads t b₁
        → Going s t old new a₁ b₁
    going_same c w a₁ b₁ q z r u =
        let x = take-first h in
        let y = take_second k in
        record {
          all = g.all;
          both = g.both;
          listed = g.listed;
          listed_too = g.listed_too;
          is = x.others;
          js = y.others;
          first = rw q x.after;
          second = rw z y.after;
          reads = r;
          reads_too = u;
          writes = on_with x.item (merged x.others y.others) (part s a.at a.next)
              (ap₂ merged x.split y.split ∙ next-same x.item y.item x.others y.others (order_is ∙ c)) x.bytes w;
        }

    pub going_more : o ≡ Greater → new ≡ with_bytes (part t b.at b.next) v → (b₁ : Items) → b₁.at ≡ b.next → Reads t b₁ → Going s t old new a b₁
    going_more c w b₁ z u =
        let x = take-first h in
        let y = take_second k in
        record {
          all = g.all;
          both = g.both;
          listed = g.listed;
          listed_too = g.listed_too;
          is = g.is;
          js = y.others;
          first = g.first;
          second = rw z y.after;
          reads = g.reads;
          reads_too = u;
          writes = on_with y.item (merged g.is y.others) (part t b.at b.next)
              (ap₂ merged x.split y.split ∙ next_more x.item y.item x.others y.others (order_is ∙ c)
              ∙ ap (λ (l : List Item). y.item ∷ merged l y.others) (sym x.split)) y.bytes w;
        }

  -- one side is over
  module _ (new : Lent) (y : List ℕ) (w : new ≡ with_bytes y v) where
    ended : y ≡ all_records (merged g.is g.js) ++ end block.DefinitionList → Added s t old new
    ended q = record {
      writes = λ is js l k.
          w ∙ ap (λ (z : List ℕ). with_bytes z v) q ∙ g.writes
          ∙ ap (λ (z : List Item). with_bytes (list_of z) old) (ap₂ merged (one_list g.listed l) (one_list g.listed_too k));
    }

    pub ended-first : length s - 6 ≤ a.at → y ≡ drop b.at t → Added s t old new
    ended-first h q =
        ended (q ∙ g.second.bytes
        ∙ ap (λ (l : List Item). all_records l ++ end block.DefinitionList)
        (sym (ap (λ (l : List Item). merged l g.js) (no_more s a.at g.is g.first h) ∙ merged-right g.js)))

    pub ended_second : length t - 6 ≤ b.at → y ≡ drop a.at s → Added s t old new
    ended_second h q =
        ended (q ∙ g.first.bytes
        ∙ ap (λ (l : List Item). all_records l ++ end block.DefinitionList)
        (sym (ap (λ (l : List Item). merged g.is l) (no_more t b.at g.js g.second h) ∙ merged-left g.is)))
