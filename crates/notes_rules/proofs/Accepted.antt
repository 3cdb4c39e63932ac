-- The texts of the parts are UTF-8, and the document that notes stand for is accepted. Assumes nothing.
use Rattle.notes_rules.proofs.Names.{ℕ, zero, suc, ◌+◌, ◌≤◌, ◌<◌, ◌≡◌, refl, sym, ap, ◌∙◌, subst, Bool, true, false, not, ◌&&◌, ◌||◌, List, [], ◌∷◌}
use Rattle.notes_rules.proofs.Names.{◌++◌, eqb, length, drop, length-append, length-drop, drop_of_length-le, drop-drop, arith, eqb-true}
use Rattle.notes_rules.proofs.Names.{when◌then◌else◌, starts_with, gives, ◌>>=◌, pick, starts-split, Range, row_of, table, well_formed, Valid, due_1}
use Rattle.notes_rules.proofs.Names.{number, index, text, around, Block, short, check, length-stored, Line, header, item, other, separator, lines}
use Rattle.notes_rules.proofs.Names.{header_mark, item_mark, joined, styled, Stretch, stretches, style_of, records, text_records, parts, document}
use Rattle.notes_rules.proofs.Names.{text_left, ordinary, le-ltb, cut, adds-low, reads, open_blocks, closed, reads-text, reads_before, part_of}
use mathlib.Core.List.{append-nil}
use lib.ListN.{take, take-append-drop}
use Rattle.base.specs.Stack.{pushed}
use Rattle.white.proofs.White.{valid_right}
use Rattle.records.specs.declared.Block.TheVariants as block
use Rattle.buffer_doc.proofs.Adding.{around-given, length-around}
use Rattle.notes_rules.proofs.Lines.{line, header_part, item_part, blank_part, other-part, next_mark, unmarked}
use Rattle.notes_rules.proofs.Texts.{behind_text, feeds, behind-feeds, Start, over, heads, items, parts_from, others, start_of}
use Rattle.notes_rules.proofs.Stretches.{Valids, no_more, one_more, stretches_valid}

-- The texts of the parts are text

pub data AllValid : List Line → Type 0 where
  none : AllValid []
  head-line : {x : List ℕ} {ls : List Line} → Valid x → AllValid ls → AllValid (header x ∷ ls)
  item_line : {x : List ℕ} {ls : List Line} → Valid x → AllValid ls → AllValid (item x ∷ ls)
  other-lines : {x : List ℕ} {ls : List Line} → Valid x → AllValid ls → AllValid (other x ∷ ls)
  blank-line : {ls : List Line} → AllValid ls → AllValid (separator ∷ ls)

abbrev ValidAt : List ℕ → Type 0
ValidAt t = Valid t → AllValid (joined (lines t))

-- a text is cut at a line feed
module _ (x : List ℕ) where
  cut_left : (r : List ℕ) → feeds r ≡ true → Valid (x ++ r) → Valid x
  cut_left [] e v = subst Valid (append-nil x) v
  cut_left (b ∷ r) e v = let q = eqb-true b 0x0A e in (cut x r b (adds-low b (omega arith)) v).left

  cut_right : (r : List ℕ) → feeds r ≡ true → Valid (x ++ r) → Valid (drop 1 r)
  cut_right [] e v = refl
  cut_right (b ∷ r) e v =
      let q = eqb-true b 0x0A e in
      let l : b < 0x80 = omega arith in
      ap (λ (d : List Range). well_formed d r) (sym (due_1 b l)) ∙ (cut x r b (adds-low b l) v).right

left-take : (one : Bool) (t : List ℕ) → text_left one t ≡ take (length (text_left one t)) t
unfolding text_left
left-take one [] = refl
left-take one (b ∷ s) =
    let i = left-take one s in
    pick (λ (x : List ℕ). x ≡ take (length x) (b ∷ s)) (eqb b 0x0A && (one || not (ordinary s))) (λ e. refl) (λ e. ap (λ (l : List ℕ). b ∷ l) i)

pub text-split : (one : Bool) (t : List ℕ) → text_left one t ++ behind_text one t ≡ t
text-split one t = ap (λ (l : List ℕ). l ++ behind_text one t) (left-take one t) ∙ take-append-drop (length (text_left one t)) t

-- a text that goes on here, and what follows its line feed
module _ (one : Bool) (t : List ℕ) (v : Valid t) where
  whole : Valid (text_left one t ++ behind_text one t)
  whole = subst Valid (sym (text-split one t)) v

  text_valid : Valid (text_left one t)
  text_valid = cut_left (text_left one t) (behind_text one t) (behind-feeds one t) whole

  rest_valid : Valid (drop (length (text_left one t) + 1) t)
  rest_valid = subst Valid (drop-drop 1 (length (text_left one t)) t) (cut_right (text_left one t) (behind_text one t) (behind-feeds one t) whole)

-- behind a marker
behind_mark : (p t : List ℕ) → Valid p → length p ≡ 2 → starts_with p t ≡ true → Valid t → Valid (drop 2 t)
behind_mark p t w n e v = valid_right p (drop 2 t) w (subst Valid (starts-split p t e ∙ ap (λ (k : ℕ). p ++ drop k t) n) v)

marks_valid : Valid header_mark × Valid item_mark
unfolding row_of table when◌then◌else◌
marks_valid = (refl, refl)

no_lines : AllValid (joined (lines []))
unfolding joined lines
no_lines = none

valid_more : (t : List ℕ) → Start t → ((k : ℕ) → ValidAt (drop (k + 1) t)) → ValidAt t
valid_more t (over e) i v = subst (λ (l : List ℕ). AllValid (joined (lines l))) (sym e) no_lines
valid_more t (heads e) i v =
    let w = behind_mark header_mark t marks_valid.0 refl e v in
    subst AllValid (sym (header_part t e))
    (head-line (text_valid true (drop 2 t) w) (i (length (line t)) (subst Valid (sym (next_mark header_mark t refl refl e)) (rest_valid true (drop 2 t) w))))
valid_more t (items e f) i v =
    let w = behind_mark item_mark t marks_valid.1 refl f v in
    subst AllValid (sym (item_part t e f))
    (item_line (text_valid true (drop 2 t) w) (i (length (line t)) (subst Valid (sym (next_mark item_mark t refl refl f)) (rest_valid true (drop 2 t) w))))
valid_more t (parts_from m g h) i v =
    subst AllValid (sym (blank_part t h (unmarked t m) g)) (blank-line (i (length (line t)) (rest_valid true t v)))
valid_more t (others o) i v =
    subst AllValid (sym (other-part t o)) (other-lines (text_valid false t v) (i (length (text_left false t)) (rest_valid false t v)))

valid_within : (n : ℕ) (t : List ℕ) → length t ≤ n → ValidAt t
valid_within zero t h v = subst (λ (l : List ℕ). AllValid (joined (lines l))) (sym (drop_of_length-le t h)) no_lines
valid_within (suc n) t h v = valid_more t (start_of t) (λ k. valid_within n (drop (k + 1) t) (omega (arith, length-drop (k + 1) t))) v

pub notes_valid : (s : List ℕ) → Valid s → AllValid (joined (lines s))
notes_valid s v = valid_within (length s) s (omega arith) v

-- The records are accepted

pub length-text : (l : Bool) (x : List ℕ) → length (text (style_of l) x) ≡ 6 + length x
unfolding text
length-text l x = length-stored (number (style_of l)) x

reads-records : (xs : List Stretch) (p : ℕ) (stack : List ℕ) → Valids xs → length (records xs) ≤ 32768 → reads p 0 stack (records xs) ≡ gives stack
unfolding records reads
reads-records [] p stack no_more h = refl
reads-records (x ∷ xs) p stack (one_more v w) h =
    let n = length-append (text (style_of x.literal) x.body) (records xs) in
    let m = length-text x.literal x.body in
    reads-text p (style_of x.literal) x.body (records xs) stack v (omega arith) ∙ reads-records xs (p + (6 + length x.body)) stack w (omega arith)

-- they are read where up to 31 blocks are open, and open one more at a time
module _ (stack : List ℕ) (low : length stack < 32) where
  reads-part : (b : Block) (x : List ℕ) (p : ℕ) → Valid x → length (around b (text_records x)) ≤ 32768
      → reads p 0 stack (around b (text_records x)) ≡ gives stack
  unfolding text_records
  reads-part b x p v h =
      let n = length-around b (text_records x) in
      around-given p b (text_records x) stack low
      (reads-records (stretches (styled false x)) (p + 6) (pushed (index b) stack) (stretches_valid x v) (omega arith))

  both_read : (a c : List ℕ) (p : ℕ) → length (a ++ c) ≤ 32768 → (length a ≤ 32768 → reads p 0 stack a ≡ gives stack)
      → (length c ≤ 32768 → reads (p + length a) 0 stack c ≡ gives stack)
      → reads p 0 stack (a ++ c) ≡ gives stack
  both_read a c p h f g = let n = length-append a c in reads_before a c p stack stack (f (omega arith)) ∙ g (omega arith)

  reads-parts : (ls : List Line) (p : ℕ) → AllValid ls → length (parts ls) ≤ 32768 → reads p 0 stack (parts ls) ≡ gives stack
  unfolding parts reads
  reads-parts [] p none h = refl
  reads-parts (header x ∷ ls) p (head-line v w) h = both_read (part_of (header x)) (parts ls) p h (reads-part block.Header x p v) (reads-parts ls _ w)
  reads-parts (item x ∷ ls) p (item_line v w) h = both_read (part_of (item x)) (parts ls) p h (reads-part block.ItemBody x p v) (reads-parts ls _ w)
  reads-parts (other x ∷ ls) p (other-lines v w) h = both_read (part_of (other x)) (parts ls) p h (reads-part block.Block x p v) (reads-parts ls _ w)
  reads-parts (separator ∷ ls) p (blank-line w) h = reads-parts ls p w h

-- a document of at most 32,768 bytes that notes in UTF-8 stand for passes refusals 1 to 8
pub document_accepted : (s : List ℕ) → Valid s → length (document s) ≤ 32768 → check (document s) ≡ gives []
unfolding check short open_blocks closed document ◌>>=◌ when◌then◌else◌
document_accepted s v h = rw (le-ltb 32768 (length (parts (joined (lines s)))) h, reads-parts [] (omega arith) (joined (lines s)) 0 (notes_valid s v) h)
