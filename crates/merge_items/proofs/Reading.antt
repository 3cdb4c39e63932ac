-- The item at a place of a side: where its term and its body end, and its text by the records that stand there. Assumes nothing.
use Rattle.merge_items.proofs.Names.{ℕ, zero, suc, ◌+◌, ◌-◌, ◌≤◌, ◌<◌, ◌≡◌, refl, sym, ap, ap₂, ◌∙◌, List, [], ◌∷◌, ◌++◌, append_assoc, append-nil}
use Rattle.merge_items.proofs.Names.{length, take, drop, arith, lt-ltb, le-ltb, gives, if_true, if_false, Token, token_at, tokens_from, Block, text_to}
use Rattle.merge_items.proofs.Names.{Closes, Found, Keyed, end_of, seen, extended, extended_in, term-closing, body-closing, content_ends}
use lib.ListN.{length-append, length-take, length-drop}
use lib.Seq.{drop-drop, drop_at}
use Rattle.records.specs.Records.{size, tokens, joined, document_text}
use Rattle.document.specs.Document.{open_blocks}
use Rattle.records.specs.Stored.{start, end, around}
use Rattle.records.specs.declared.Block.TheVariants as block
use Rattle.buffer_doc.proofs.Adding.{length-start, length-around}
use Rattle.merge_rules.specs.Merge.{Item, key, records, Proper}
use Rattle.merge_items.specs.declared.Place.{Place}
use Rattle.merge_items.specs.declared.Items.{Items}
use Rattle.merge_items.specs.InnerSteps.{Begun, Read}
use Rattle.std.specs.Borrow.{GName}
use Rattle.std.specs.Prelude.{Some, None}
use mathlib.Core.Bool.{Bool, true, false}
use lib.Dec.{leb}
use borrow.Author.Tests.{leb-true, leb-false}
use Rattle.merge_rules.proofs.Whole.{tokens_append, reads_shift, around_then}

-- Bytes from a place on

module _ (s : List ℕ) (at : ℕ) (b : Block) (x w : List ℕ) (e : drop at s ≡ around b x ++ w) where
  pub drop-start : drop (at + 6) s ≡ x ++ (end b ++ w)
  drop-start = sym (drop-drop 6 at s) ∙ ap (drop 6) (e ∙ around_then b x w) ∙ drop_at (start b) (x ++ (end b ++ w)) 6 (length-start b)

  pub drop_block : drop (at + length (around b x)) s ≡ w
  drop_block = sym (drop-drop (length (around b x)) at s) ∙ ap (drop (length (around b x))) e ∙ drop_at (around b x) w (length (around b x)) refl

pub length-records : (i : Item) → length (records i) ≡ 24 + length i.term + length i.body
unfolding records
length-records i =
    omega (
      arith,
      length-append (around block.ItemTerm i.term) (around block.ItemBody i.body),
      length-around block.ItemTerm i.term,
      length-around block.ItemBody i.body,
    )

-- The item at a place

module _ (s : List ℕ) (at : ℕ) (i : Item) (w : List ℕ) (p : Proper i) (e : drop at s ≡ records i ++ w) where
  at_term : drop at s ≡ around block.ItemTerm i.term ++ (around block.ItemBody i.body ++ w)
  unfolding records
  at_term = e ∙ append_assoc (around block.ItemTerm i.term) (around block.ItemBody i.body) w

  pub term_ends : end_of (tokens_from s (at + 6)) 0 ≡ at + 6 + length i.term
  term_ends = ap (λ (l : List ℕ). end_of (tokens (at + 6) 0 l) 0) (drop-start s at block.ItemTerm i.term (around block.ItemBody i.body ++ w) at_term)
      ∙ content_ends term-closing (at + 6) (around block.ItemBody i.body ++ w) p.term

  pub body_ends : end_of (tokens_from s (at + 6 + length i.term + 12)) 0 ≡ at + 6 + length i.term + 12 + length i.body
  body_ends =
      let q = at + length (around block.ItemTerm i.term) in
      let n : at + 6 + length i.term + 12 ≡ q + 6 = omega (arith, length-around block.ItemTerm i.term) in
      let d : drop (at + 6 + length i.term + 12) s ≡ i.body ++ (end block.ItemBody ++ w) = ap (λ (k : ℕ). drop k s) n
      ∙ drop-start s q block.ItemBody i.body w (drop_block s at block.ItemTerm i.term (around block.ItemBody i.body ++ w) at_term) in
      ap (λ (l : List ℕ). end_of (tokens (at + 6 + length i.term + 12) 0 l) 0) d ∙ content_ends body-closing (at + 6 + length i.term + 12) w p.body

pub some_place : {p q : Place} → Some p ≡ Some q → p ≡ q
some_place e = cc

pub none-place : {p : Place} → None ≡ Some p → ⊥
none-place e = let z : ◌≡◌ {A = ℕ} 0 1 = cc in omega arith

pub found : (s : List ℕ) (at stop last : ℕ) → Closes s (at + 6) (Some stop) → Closes s (stop + 12) (Some last) → at ≤ length s
    → Found s at (Some (record { stop = stop; next = last + 6 }))
found s at stop last f g h = record {
  inside = (h, f.1);
  item = λ i w p e.
      let t : stop ≡ at + 6 + length i.term = f.0 ∙ term_ends s at i w p e in
      let b : last ≡ at + 6 + length i.term + 12 + length i.body =
      g.0 ∙ ap (λ (k : ℕ). end_of (tokens_from s (k + 12)) 0) t ∙ body_ends s at i w p e in
      let n : last + 6 ≡ at + length (records i) = omega (arith, length-records i) in
      ap₂ (λ (x y : ℕ). let p : Place = record { stop = x; next = y } in Some p) t n;
}

-- no item stands where a term or a body does not end
pub found_no_term : (s : List ℕ) (at : ℕ) → Closes s (at + 6) None → Found s at None
found_no_term s at f = record {
  inside = tt;
  item = λ i w p e. let z : ⊥ = omega (arith, sym f ∙ term_ends s at i w p e) in absurd z;
}

pub found_no_body : (s : List ℕ) (at stop : ℕ) → Closes s (at + 6) (Some stop) → Closes s (stop + 12) None → Found s at None
found_no_body s at stop f g = record {
  inside = tt;
  item = λ i w p e.
      let t : stop ≡ at + 6 + length i.term = f.0 ∙ term_ends s at i w p e in
      let z : ⊥ = omega (arith, sym g ∙ ap (λ (k : ℕ). end_of (tokens_from s (k + 12)) 0) t ∙ body_ends s at i w p e) in absurd z;
}

-- none stands past the end
pub found_past : (s : List ℕ) (at : ℕ) → length s < at → Found s at None
found_past s at h = record {
  inside = tt;
  item = λ i w p e. let z : ⊥ = omega (arith, ap length e, length-drop at s, length-append (records i) w, length-records i) in absurd z;
}

-- Its text

text-to : (x : List ℕ) (p pass stop : ℕ) (us : List Token) → p + length x ≤ stop
    → text_to stop (tokens p pass x ++ us) ≡ joined (tokens p pass x) ++ text_to stop us
unfolding text_to tokens joined token_at
text-to [] p pass stop us h = refl
text-to (b ∷ s) p (suc pass) stop us h = text-to s (p + 1) pass stop us (omega arith)
text-to (b ∷ s) p zero stop us h =
    if_true _ _ (lt-ltb p stop (omega arith))
    ∙ ap (λ (l : List ℕ). (token_at p (b ∷ s)).body ++ l) (text-to s (p + 1) (5 + size (b ∷ s)) stop us (omega arith))
    ∙ sym (append_assoc (token_at p (b ∷ s)).body _ _)

text-past : (v : List ℕ) (stop : ℕ) → text_to stop (tokens stop 0 v) ≡ []
unfolding text_to tokens token_at
text-past [] stop = refl
text-past (b ∷ v) stop = if_false _ _ (le-ltb stop stop (omega arith))

joined-anywhere : (s : List ℕ) (p q pass : ℕ) → joined (tokens p pass s) ≡ joined (tokens q pass s)
unfolding joined tokens token_at
joined-anywhere [] p q pass = refl
joined-anywhere (b ∷ s) p q (suc pass) = joined-anywhere s (p + 1) (q + 1) pass
joined-anywhere (b ∷ s) p q zero = ap (λ (l : List ℕ). take (size (b ∷ s)) (drop 6 (b ∷ s)) ++ l) (joined-anywhere s (p + 1) (q + 1) (5 + size (b ∷ s)))

module _ (s : List ℕ) (at : ℕ) (i : Item) (w : List ℕ) (p : Proper i) (e : drop at s ≡ records i ++ w) where
  pub key_at : text_to (at + 6 + length i.term) (tokens_from s (at + 6)) ≡ key i
  unfolding document_text open_blocks
  key_at =
      let q = at + 6 in
      let x = i.term in
      let v = end block.ItemTerm ++ (around block.ItemBody i.body ++ w) in
      let stop = q + length x in
      ap (λ (l : List ℕ). text_to stop (tokens q 0 l)) (drop-start s at block.ItemTerm i.term (around block.ItemBody i.body ++ w) (at_term s at i w p e))
      ∙ ap (text_to stop) (tokens_append x v q 0 [] [] (omega arith) (reads_shift x 0 q 0 [] [] (omega arith) p.term.whole))
      ∙ text-to x q 0 stop (tokens stop 0 v) (omega arith)
      ∙ ap₂ ◌++◌ (joined-anywhere x q 0 0) (text-past v stop)
      ∙ append-nil (joined (tokens 0 0 x))

-- a text is no longer than the records that hold it
joined_length : (s : List ℕ) (p pass : ℕ) → length (joined (tokens p pass s)) ≤ length s - pass
unfolding joined tokens token_at
joined_length [] p pass = omega arith
joined_length (b ∷ s) p (suc pass) = omega (arith, joined_length s (p + 1) pass)
joined_length (b ∷ s) p zero =
    let n = size (b ∷ s) in
    let x = take n (drop 6 (b ∷ s)) in
    let r = joined (tokens (p + 1) (5 + n) s) in
    omega (arith, length-append x r, joined_length s (p + 1) (5 + n), length-take n (drop 6 (b ∷ s)), length-drop 6 (b ∷ s))

-- The item with its text joined

pub keyed : (s : List ℕ) (at : ℕ) (text : List ℕ) (limit len : ℕ) (p : Place) → length text ≡ limit → Found s at (Some p)
    → seen text len ≡ extended limit (text_to p.stop (tokens_from s (at + 6))) [] → Keyed s at p.next text len
keyed s at text limit len p l f e = record {
  item = λ i w q d.
      let g = some_place (f.item i w q d) in (
        ap (λ (x : Place). x.next) g,
        e ∙ ap (λ (x : Place). extended limit (text_to x.stop (tokens_from s (at + 6))) []) g ∙ ap (λ (x : List ℕ). extended limit x []) (key_at s at i w q d)
            ∙ ap (λ (n : ℕ). extended n (key i) []) (sym l),
      );
}

pub keyed_none : {s : List ℕ} {at next : ℕ} {text : List ℕ} {len : ℕ} → Found s at None → Keyed s at next text len
keyed_none f = record { item = λ i w q d. absurd (none-place (f.item i w q d)) }

-- in a document, with a key as long as one can be, the text stands there
pub record Holding (s : List ℕ) (at next : ℕ) (text : List ℕ) (len : ℕ) : Type 0 where
  pub item : (i : Item) (w : List ℕ) → Proper i → drop at s ≡ records i ++ w → (next ≡ at + length (records i)) × (seen text len ≡ gives (key i))

pub holding : {s : List ℕ} {at next : ℕ} {text : List ℕ} {len : ℕ} → length s ≤ 32768 → length text ≡ 32768 → Keyed s at next text len
    → Holding s at next text len
unfolding document_text
holding {s} {at} {text} h l k = record {
  item = λ i w q d.
      let g = k.item i w q d in
      let n : length (key i) ≤ length i.term = omega (arith, joined_length i.term 0 0) in
      let m : length i.term ≤ 32768 = omega (arith, ap length d, length-drop at s, length-append (records i) w, length-records i) in
      (g.0, g.1 ∙ extended_in (length text) (key i) [] (omega arith));
}

-- a side whose next item was read, with a key as long as one can be
pub record Reads (s : List ℕ) (i : Items) : Type 0 where
  pub document : i.document.now ≡ s
  pub size : length i.key.room.now ≡ 32768
  pub keyed : Holding s i.at i.next i.key.room.now i.key.len

pub reads_first : {s : List ℕ} {n : GName} {k : ℕ} {i : Items} → length s ≤ 32768 → k ≡ 32768 → Begun s n k i → Reads s i
reads_first h l b = record { document = b.document; size = b.size ∙ l; keyed = holding h (b.size ∙ l) b.keyed }

pub reads_at : {s : List ℕ} {p : ℕ} {old new : Items} → length s ≤ 32768 → Reads s old → Read p old new → Reads s new
reads_at {s} {p} {old} {new} h o r =
    let d : new.document.now ≡ s = rw (r.document, o.document) refl in
    record { document = d; size = r.size ∙ o.size; keyed = holding h (r.size ∙ o.size) (rw d at r.keyed) }

-- whether its items are over
module _ {s : List ℕ} {i : Items} (o : Reads s i) {r : Bool} (e : r ≡ leb (length i.document.now - 6) i.at) where
  pub is_over : r ≡ true → length s - 6 ≤ i.at
  is_over y = leb-true _ _ (rw (← o.document) (sym e ∙ y))

  pub goes_on : r ≡ false → i.at < length s - 6
  goes_on n = leb-false _ _ (rw (← o.document) (sym e ∙ n))
