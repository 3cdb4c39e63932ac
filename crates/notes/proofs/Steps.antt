-- One part of the notes after another, from a place on. Assumes nothing.
use Rattle.notes.proofs.Names.{ℕ, ◌+◌, ◌≤◌, ◌<◌, ◌≡◌, refl, sym, ap, ap₂, ◌∙◌, ⊎_elim, Bool, true, false, ◌&&◌, List, [], ◌++◌}
use Rattle.notes.proofs.Names.{length, take, drop, drop_of_length-le, length-take-le, arith, le-leb, lt-leb}
use Rattle.notes.proofs.Names.{le-ltb, lt-ltb, starts_with, seen, extended, around, lines, header_mark, item_mark, joined, text_records, parts}
use Rattle.notes.proofs.Names.{document, fit, taken_in, blank_line, text_left, behind, Ends}
use lib.Dec.{leb}
use Rattle.base.specs.Result.{Result, gives, refused, ◌>>=◌}
use Rattle.base.proofs.Choice.{if_true, if_false, and_both, le_or_lt}
use Rattle.base.proofs.Results.{refused-gives, gives_same}
use Rattle.utf8.specs.Utf8.{utf8}
use Rattle.room.proofs.Laws.{seen_in, seen-out, extended_in, extended-out}
use Rattle.document.specs.Document.{short}
use Rattle.records.specs.Records.{index}
use Rattle.records.specs.Stored.{head, start, end}
use Rattle.records.specs.declared.Block.{Block}
use Rattle.records.specs.declared.Block.TheVariants as block
use Rattle.record_writer.proofs.Heads.{head-start, head-end}
use Rattle.std.specs.Borrow.{GName}
use Rattle.room.specs.Lent.{Lent, lent_empty, with_bytes}
use Rattle.room.proofs.Lents.{with_both, with_same}
use Rattle.notes_rules.proofs.Lines.{unmarked_is, ordinary-is, line, next, next_mark, header_part, item_part, blank_part, other-part}

module _ (s : List ℕ) where
  pub document-end : length s ≡ 0 → document s ≡ []
  unfolding document parts joined lines
  document-end h = rw (drop_of_length-le s {i = 0} (omega arith)) refl

  -- a line with a marker
  pub step_header : starts_with header_mark s ≡ true
      → document s ≡ around block.Header (text_records (text_left true (drop 2 s))) ++ document (behind true (drop 2 s))
  unfolding document parts
  step_header h =
      ap parts (header_part s h)
      ∙ ap (λ (y : List ℕ). around block.Header (text_records (line (drop 2 s))) ++ parts (joined (lines y))) (next_mark header_mark s refl refl h)

  pub step_item : starts_with header_mark s ≡ false → starts_with item_mark s ≡ true
      → document s ≡ around block.ItemBody (text_records (text_left true (drop 2 s))) ++ document (behind true (drop 2 s))
  unfolding document parts
  step_item g h =
      ap parts (item_part s g h)
      ∙ ap (λ (y : List ℕ). around block.ItemBody (text_records (line (drop 2 s))) ++ parts (joined (lines y))) (next_mark item_mark s refl refl h)

  -- a line that separates
  pub step-blank : 0 < length s → starts_with header_mark s ≡ false → starts_with item_mark s ≡ false → blank_line s ≡ true
      → document s ≡ document (behind true s)
  unfolding document parts
  step-blank l g h b = ap parts (blank_part s l (record { no_header = g; no_item = h }) b)

  -- neighbouring lines
  pub step_other : starts_with header_mark s ≡ false → starts_with item_mark s ≡ false → blank_line s ≡ false
      → document s ≡ around block.Block (text_records (text_left false s)) ++ document (behind false s)
  unfolding document parts
  step_other g h b = ap parts (other-part s (ordinary-is s (unmarked_is s g h) b))

-- behind a text that ends there
pub behind_text : {s : List ℕ} {one : Bool} {n : ℕ} → Ends s one n → drop (n + 1) s ≡ behind one s
behind_text {s} {one} {n} e =
    let k : length (text_left one s) ≡ n = ap length (sym e.is) ∙ length-take-le n s e.inside in
    ap (λ (i : ℕ). drop (i + 1) s) (sym k)

-- A part written

-- a block around some records, its start, they and its end
pub part-written : (old one two three : Lent) (b : Block) (x : List ℕ) (h k : List ℕ) {i j : ℕ} → i ≡ 0x0100 + index b → j ≡ 0x0200 + index b
    → h ≡ head 0 i → k ≡ head 0 j → one ≡ with_bytes h old → two ≡ with_bytes x one → three ≡ with_bytes k two → three ≡ with_bytes (around b x) old
unfolding around
part-written old one two three b x h k {i} {j} q r f g e₁ e₂ e₃ =
    with_same three old ((h ++ x) ++ k) (start b ++ x ++ end b)
    (ap₂ (λ (s t : List ℕ). s ++ x ++ t) (f ∙ head-start b q) (g ∙ head-end b r))
    (with_both old two three (h ++ x) k (with_both old one two h x e₁ e₂) e₃)

-- What is written of the notes: the document of what is left follows.

abbrev pub Leaves : List ℕ → Lent → Lent → List ℕ → Type 0
Leaves s old new rest = with_bytes (document rest) new ≡ with_bytes (document s) old

module _ (s : List ℕ) (old new : Lent) (rest : List ℕ) (l : Leaves s old new rest) where
  -- a part, of which x is what is written
  pub leaves_part : (next : Lent) (x after : List ℕ) → next ≡ with_bytes x new → document rest ≡ x ++ document after → Leaves s old next after
  leaves_part next x after w d =
      with_both new next (with_bytes (document after) next) x (document after) w refl ∙ ap (λ (y : List ℕ). with_bytes y new) (sym d) ∙ l

  -- lines of which nothing is written
  pub leaves_blank : (after : List ℕ) → document rest ≡ document after → Leaves s old new after
  leaves_blank after d = ap (λ (y : List ℕ). with_bytes y new) (sym d) ∙ l

  pub leaves_none : with_bytes [] new ≡ new → length rest ≡ 0 → new ≡ with_bytes (document s) old
  leaves_none z h = sym z ∙ ap (λ (y : List ℕ). with_bytes y new) (sym (document-end rest h)) ∙ l

-- The whole

-- written into a room with nothing written
pub written_first : (v : Lent) (n : GName) (limit : ℕ) (x : List ℕ) → v ≡ lent_empty n limit → (with_bytes x v).shown ≡ extended limit x []
unfolding ◌>>=◌
written_first v n limit x e = ap (λ (t : Lent). (with_bytes x t).shown) e

-- the answer by the length that was reached
module _ (notes room : List ℕ) where
  pub taken_long : 32768 < length notes → refused 1 0 ≡ taken_in (length room) notes
  unfolding taken_in short ◌>>=◌
  taken_long h = sym (rw (if_true {A = Result (List ℕ)} (refused 1 0) (gives notes) (lt-ltb 32768 (length notes) h)))

  module _ (h : length notes ≤ 32768) where
    short_enough : short notes ≡ gives notes
    unfolding short
    short_enough = if_false _ _ (le-ltb 32768 (length notes) h)

    pub taken_other : utf8 notes ≡ false → refused 19 0 ≡ taken_in (length room) notes
    unfolding taken_in ◌>>=◌
    taken_other v = sym (rw short_enough (if_false _ _ v))

    module _ (v : utf8 notes ≡ true) (n : ℕ) (e : seen room n ≡ extended (length room) (document notes) []) where
      taken_fit : taken_in (length room) notes ≡ fit (length room) (document notes)
      unfolding taken_in ◌>>=◌
      taken_fit = rw short_enough (if_true _ _ v)

      -- how far it was written
      unreached : length room < n → length room < length (document notes)
      unreached k =
          ⊎_elim
          (λ (i : length (document notes) ≤ length room).
          absurd (refused-gives (sym (seen-out room n k) ∙ e ∙ extended_in (length room) (document notes) [] (omega arith))))
          (λ (i : length room < length (document notes)). i)
          (le_or_lt (length (document notes)) (length room))

      reached : n ≤ length room → (take n room ≡ document notes) × (length (document notes) ≡ n)
      reached k =
          ⊎_elim
          (λ (i : length (document notes) ≤ length room).
          let f : take n room ≡ document notes = gives_same (sym (seen_in room n k) ∙ e ∙ extended_in (length room) (document notes) [] (omega arith)) in
          (f, ap length (sym f) ∙ length-take-le n room k))
          (λ (i : length room < length (document notes)).
          absurd (refused-gives (sym (extended-out (length room) (document notes) [] (omega arith)) ∙ sym e ∙ seen_in room n k)))
          (le_or_lt (length (document notes)) (length room))

      -- past the room
      fit-out : length room < length (document notes) → refused 13 0 ≡ taken_in (length room) notes
      unfolding fit
      fit-out k =
          sym (taken_fit ∙ if_false _ _ (ap (λ (t : Bool). t && leb (length (document notes)) 32768) (lt-leb (length (document notes)) (length room) k)))

      pub taken_over : 32768 < n → refused 13 0 ≡ taken_in (length room) notes
      unfolding fit
      taken_over l =
          ⊎_elim
          (λ (k : n ≤ length room).
          let r = reached k in
          sym (taken_fit ∙ if_false _ _
          (ap₂ ◌&&◌ (le-leb (length (document notes)) (length room) (omega arith)) (lt-leb (length (document notes)) 32768 (omega arith)))))
          (λ (k : length room < n). fit-out (unreached k))
          (le_or_lt n (length room))

      pub taken_reached : n ≤ 32768 → seen room n ≡ taken_in (length room) notes
      unfolding fit
      taken_reached l =
          ⊎_elim
          (λ (k : n ≤ length room).
          let r = reached k in
          seen_in room n k ∙ ap gives r.0
          ∙ sym (taken_fit
          ∙ if_true _ _ (and_both (le-leb (length (document notes)) (length room) (omega arith)) (le-leb (length (document notes)) 32768 (omega arith)))))
          (λ (k : length room < n). seen-out room n k ∙ fit-out (unreached k))
          (le_or_lt n (length room))
