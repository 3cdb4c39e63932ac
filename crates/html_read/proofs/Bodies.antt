-- A body without line ends adds its escaped form to a strict page, and so is told apart from others. Assumes nothing.
use Rattle.html_read.proofs.Names.{ℕ, zero, suc, ◌+◌, ◌-◌, ◌≡◌, refl, sym, ap, ◌∙◌, true, false, List, [], ◌∷◌, ◌++◌, append_assoc, append-nil}
use Rattle.html_read.proofs.Names.{append_cancel_left, eqb, when◌then◌else◌, starts_with, pick, if_false, and_left, and_right, and_both, and_fails}
use Rattle.html_read.proofs.Names.{bytes, encode, Style, escaped_by, opening, closing, entity, escaped, read_back, free, form, ToldApart, Bodies}
use mathlib.Core.Bool.{Bool, not, ◌||◌, ◌&&◌, false≢true}
use lib.ListN.{length, drop, get_or, take-append-drop}
use native.Mathlib.Numerals.{sub-one}
use borrow.Author.Tests.{eqb-true}
use Rattle.base.specs.Result.{Result, gives, ◌>>=◌}
use Rattle.base.proofs.Results.{bind_assoc, bind_end, bind_gives, if_gives, gives_same}
use Rattle.utf8.specs.Utf8.{characters}
use Rattle.records.specs.Records.{Token}
use Rattle.records.specs.declared.Style.TheVariants as style
use Rattle.records.specs.declared.Kind.TheVariants as kind
use Rattle.splitter.specs.declared.Code.{Code}
use Rattle.splitter.specs.declared.Code.TheVariants as code
use Rattle.splitter.specs.Split.{Chunk, raw, before, is_line_end, is_line_end_or_space, word, after_line_end, Step, step, Placed, placed, split}
use Rattle.splitter.proofs.Before.{before-take}
use Rattle.room.specs.Room.{extended}
use Rattle.room.proofs.Laws.{extended_twice}
use Rattle.renderer.specs.Walk.{page, with_out, with_lay, write, anywhere, body}
use Rattle.skip.specs.Counter.{hides}
use Rattle.html_rules.specs.Html.{State, plain, initial, with_style, change, chunk, turn}
use Rattle.html_rules.proofs.Lifts.{lift_then}
use Rattle.html_read.proofs.Reading.{form_told}

-- Bytes that fail a test

not-true : (t : Bool) → not t ≡ true → t ≡ false
not-true true e = sym e
not-true false e = refl

or_left : (a b : Bool) → not (a || b) ≡ true → not a ≡ true
or_left true b e = e
or_left false b e = refl

-- what is 'free of space and line end' is free of line end
free_of_both : (x : List ℕ) → free is_line_end_or_space x ≡ true → free is_line_end x ≡ true
unfolding free
free_of_both [] e = refl
free_of_both (b ∷ x) e =
    and_both (or_left (eqb b 0x0A) (eqb b 0x20) (and_left (not (is_line_end_or_space b)) (free is_line_end_or_space x) e))
    (free_of_both x (and_right (not (is_line_end_or_space b)) (free is_line_end_or_space x) e))

-- The chunks of a body without line ends

-- the first chunk is text, and its bytes and those after it are the bytes that were there
record First (b : ℕ) (s : List ℕ) (r : Step) : Type 0 where
  text : List ℕ
  width : ℕ
  chunk : r.chunk ≡ raw text width
  code : r.code ≡ code.No
  whole : text ++ drop (r.used - 1) s ≡ b ∷ s

-- a word and the bytes after it
word-whole : (b : ℕ) (s : List ℕ) → is_line_end_or_space b ≡ false → word (b ∷ s) ++ drop (length (word (b ∷ s)) - 1) s ≡ b ∷ s
unfolding before
word-whole b s e =
    ap (λ (w : List ℕ). w ++ drop (length w - 1) s) (if_false _ _ e)
    ∙ ap (λ (n : ℕ). b ∷ word s ++ drop n s) (sub-one (length (b ∷ word s)))
    ∙ ap (λ (w : List ℕ). b ∷ w ++ drop (length (word s)) s) (before-take is_line_end_or_space s)
    ∙ ap (λ (l : List ℕ). b ∷ l) (take-append-drop (length (word s)) s)

first_chunk : (b : ℕ) (s : List ℕ) → is_line_end b ≡ false → First b s (step code.No (b ∷ s))
unfolding step starts_with
first_chunk b s n =
    pick (First b s) (eqb b 0x0A && true) (λ e. absurd (false≢true (sym n ∙ and_left (eqb b 0x0A) true e))) λ _.
    pick (First b s) (eqb b 0x20 && true)
    (λ e. record {
      text = 0x20 ∷ [];
      width = 1;
      chunk = refl;
      code = refl;
      whole = ap (λ (c : ℕ). c ∷ s) (sym (eqb-true b 0x20 (and_left (eqb b 0x20) true e)));
    })
    (λ e. record {
      text = word (b ∷ s);
      width = characters (word (b ∷ s));
      chunk = refl;
      code = refl;
      whole = word-whole b s (rw (n, and_fails (eqb b 0x20) e));
    })

-- What a body adds

escaped-append : (x y : List ℕ) → escaped true (x ++ y) ≡ escaped true x ++ escaped true y
unfolding escaped_by
escaped-append [] y = refl
escaped-append (b ∷ x) y =
    ap (λ (z : List ℕ). entity true b ++ z) (escaped-append x y) ∙ sym (append_assoc (entity true b) (escaped true x) (escaped true y))

module _ (room : ℕ) where
  -- two writes are one
  write_twice : (x y : List ℕ) (s : State) → (write room x s >>= write room y) ≡ write room (x ++ y) s
  unfolding write
  write_twice x y s =
      lift_then (extended room x) s (extended room y)
      ∙ ap (λ (r : Result (List ℕ)). r >>= λ z. gives (with_out z s)) (extended_twice room x y s.out)

  -- what was written, where there was room
  write-gives : (x : List ℕ) (s a : State) → write room x s ≡ gives a → a.out ≡ s.out ++ x
  unfolding write extended
  write-gives x s a e =
      let f = bind_gives (extended room x s.out) _ a e in
      let g = if_gives _ (gives (s.out ++ x)) 13 0 f.0 f.1 in
      ap (λ (t : State). t.out) (sym (gives_same f.2)) ∙ sym (gives_same g.1)

  module _ (full : Bool) where
    abbrev walked : List Placed → State → Result State
    walked cs = body full (anywhere (chunk room true full)) cs

    -- after some bytes, the text of a chunk
    text-written : (x y : List ℕ) (at width : ℕ) (cs : List Placed) (s : State)
        → (write room x s >>= walked (record { place = at; chunk = raw y width } ∷ cs)) ≡ (write room (x ++ escaped true y) s >>= walked cs)
    unfolding body chunk when◌then◌else◌
    text-written x y at width cs s =
        bind_assoc (write room x s) (write room (escaped true y)) (walked cs)
        ∙ ap (λ (r : Result State). r >>= walked cs) (write_twice x (escaped true y) s)

    -- after some bytes, no chunk
    none_written : (x : List ℕ) (s : State) → (write room x s >>= walked []) ≡ write room (x ++ []) s
    unfolding body
    none_written x s = bind_end (write room x s) ∙ ap (λ (z : List ℕ). write room z s) (sym (append-nil x))

    -- after some bytes, the chunks of others from a place on
    chunks-written : (x y : List ℕ) (at pass : ℕ) (s : State) → free is_line_end y ≡ true
        → (write room x s >>= walked (placed at code.No pass y)) ≡ write room (x ++ escaped true (drop pass y)) s
    unfolding placed free escaped_by
    chunks-written x [] at zero s e = none_written x s
    chunks-written x [] at (suc pass) s e = none_written x s
    chunks-written x (b ∷ y) at (suc pass) s e = chunks-written x y (at + 1) pass s (and_right (not (is_line_end b)) (free is_line_end y) e)
    chunks-written x (b ∷ y) at zero s e =
        let r = step code.No (b ∷ y) in
        let f = first_chunk b y (not-true (is_line_end b) (and_left (not (is_line_end b)) (free is_line_end y) e)) in
        let t = f.text in
        let rest = drop (r.used - 1) y in
        let here = at + r.begins in
        ap (λ (c : Chunk). write room x s >>= walked (record { place = here; chunk = c } ∷ placed (at + 1) r.code (r.used - 1) y)) f.chunk
        ∙ ap (λ (c : Code). write room x s >>= walked (record { place = here; chunk = raw t f.width } ∷ placed (at + 1) c (r.used - 1) y)) f.code
        ∙ text-written x t here f.width (placed (at + 1) code.No (r.used - 1) y) s
        ∙ chunks-written (x ++ escaped true t) y (at + 1) (r.used - 1) s (and_right (not (is_line_end b)) (free is_line_end y) e)
        ∙ ap (λ (z : List ℕ). write room z s) (append_assoc x (escaped true t) (escaped true rest))
        ∙ ap (λ (z : List ℕ). write room (x ++ z) s) (sym (escaped-append t rest))
        ∙ ap (λ (z : List ℕ). write room (x ++ escaped true z) s) f.whole

    -- a text record, where it is not hidden
    record_written : (place start : ℕ) (st : Style) (x : List ℕ) (ts : List Token) (s : State)
        → free is_line_end x ≡ true → hides s.lay.skip ≡ false
        → turn room true full place start (kind.Text st) x ts s ≡ write room (form s.lay.style st x) (with_lay (with_style st) s)
    unfolding turn change split form
    record_written place start st x ts s e h = if_false _ _ h ∙ chunks-written (closing s.lay.style ++ opening st) x 0 0 (with_lay (with_style st) s) e

-- Bodies told apart

without-line_ends : ToldApart (free is_line_end)
without-line_ends room place start full st x y ts s a b e f h g k same =
    let before = s.lay.style in
    let u = write-gives room (form before st x) (with_lay (with_style st) s) a (sym (record_written room full place start st x ts s e h) ∙ g) in
    let v = write-gives room (form before st y) (with_lay (with_style st) s) b (sym (record_written room full place start st y ts s f h) ∙ k) in
    sym (form_told before st x) ∙ ap read_back (append_cancel_left s.out _ _ (sym u ∙ same ∙ v)) ∙ form_told before st y

-- `a⏎b` and `a b` in style Text, on an empty page
line-end_as_space : ToldApart (λ _. true) → ⊥
unfolding turn change write extended body chunk split placed step after_line_end starts_with before when◌then◌else◌ ◌>>=◌ bytes encode escaped_by entity
line-end_as_space all =
    let after : State = page [] plain (bytes "a b") in
    let e = all 3 0 6 true style.Text (bytes "a\nb") (bytes "a b") [] initial after after refl refl refl refl refl refl in
    false≢true (ap (λ (x : List ℕ). eqb (get_or x 1 0) 0x20) e)

pub bodies : Bodies
bodies = record {
  written = λ room place start full. record_written room full place start;
  told = form_told;
  different = λ room place start full st x y ts s a b e f. without-line_ends room place start full st x y ts s a b (free_of_both x e) (free_of_both y f);
  with_spaces = without-line_ends;
  not_all = line-end_as_space;
}
