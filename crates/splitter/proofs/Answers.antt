-- The answers of the code as the rules have them. Assumes nothing.
use Rattle.splitter.proofs.Names.{ℕ, ◌+◌, ◌≤◌, ◌<◌, ◌≡◌, refl, sym, ap, ap₂, ◌∙◌, Bool, true, false, and-true, List, [], ◌∷◌, eqb, length, drop}
use Rattle.splitter.proofs.Names.{get_or, drop-drop, drop-cons, arith, eq-eqb, ne_eqb, when◌then◌else◌, starts_with, Chunk, raw, paragraph}
use Rattle.splitter.proofs.Names.{line_break, line, word, ticks, four, is_line_end, Step, after_line_end, ticked, step, Follows, word_from, Code}
use Rattle.splitter.proofs.Names.{Cursor, Piece, Raw, Space, Paragraph, LineBreak, Some, None, Option}
use Rattle.splitter.specs.Answers.{piece_at, answer, first_chunk, placed_of, cursor, placed_from, PieceWithin, Within}
use Rattle.splitter.specs.declared.Code.TheVariants as code
use Rattle.splitter.specs.declared.Word.{Word}
use Rattle.splitter.proofs.Before.{before-after}
use Rattle.splitter.proofs.Starts.{word-no_space}
pub use Rattle.splitter.proofs.Fits.{count_short}
use Rattle.splitter.proofs.Steps.{space_piece, word_piece, line-piece, first-none, first_some, first-within, placed-take, placed-done}

-- an answer is that of a step of the rules where its parts are
module _ (at : ℕ) where
  given : (s : Step) (p : Piece) (to : ℕ) (d : Code) → piece_at (at + s.begins) s.chunk ≡ p → to ≡ at + s.used → d ≡ s.code
      → (p, cursor to d) ≡ answer at s
  unfolding answer
  given s p to d e f g = ap₂ (λ (q : Piece) (x : Cursor). (q, x)) (sym e) (ap₂ cursor f g)

  -- for a chunk that begins at the first of the bytes
  at_first : (c : Chunk) (p : Piece) → piece_at at c ≡ p → piece_at (at + 0) c ≡ p
  at_first c p e = let z : at + 0 ≡ at = omega arith in rw z e

-- A line in ticks
module _ (body : List ℕ) (at to : ℕ) (e : to ≡ at + length (line (drop at body))) where
  tick-piece : piece_at (at + 0) (raw (line (drop at body)) 1_000_001) ≡ Raw at to 1_000_001
  tick-piece = at_first at _ _ (line-piece at (line (drop at body)) 1_000_001 to e refl)

  pub ticked-on : (last : Bool) → last ≡ false → (Raw at to 1_000_001, cursor (to + 1) code.Rest) ≡ answer at (ticked last (drop at body))
  unfolding ticked when◌then◌else◌
  ticked-on last f = rw f (given at (ticked false (drop at body)) (Raw at to 1_000_001) (to + 1) code.Rest tick-piece (omega arith) refl)

  module _ (last : Bool) (f : last ≡ true) where
    pub ticked-kept : starts_with (0x0A ∷ 0x0A ∷ []) (drop to body) ≡ true
        → (Raw at to 1_000_001, cursor to code.No) ≡ answer at (ticked last (drop at body))
    unfolding ticked when◌then◌else◌
    ticked-kept g =
        rw f (given at (ticked true (drop at body)) (Raw at to 1_000_001) to code.No tick-piece (rw (before-after is_line_end body at to e, g) e) refl)

    pub ticked-last : starts_with (0x0A ∷ 0x0A ∷ []) (drop to body) ≡ false
        → (Raw at to 1_000_001, cursor (to + 1) code.No) ≡ answer at (ticked last (drop at body))
    unfolding ticked when◌then◌else◌
    ticked-last g =
        rw f (given at (ticked true (drop at body)) (Raw at to 1_000_001) (to + 1) code.No tick-piece
        (rw (before-after is_line_end body at to e, g) (omega arith)) refl)

-- After a line end, which stands at `at`
module _ (body tail : List ℕ) (at : ℕ) (f : Follows body at tail) where
  abbrev Answers : Piece × Cursor → Type 0
  Answers r = r ≡ answer at (after_line_end tail)

  pub after-code : (to : ℕ) → starts_with four tail ≡ true → to ≡ at + 1 + 4 + length (line (drop (at + 1 + 4) body))
      → Answers (Raw (at + 1 + 4) to 1_000_000, cursor to code.No)
  unfolding after_line_end when◌then◌else◌
  after-code to s k =
      let from = at + 1 + 4 in
      let p : at + 5 ≡ from = omega arith in
      let q : drop 4 tail ≡ drop from body = ap (drop 4) f.1 ∙ drop-drop 4 (at + 1) body in
      rw (s, q)
      (given at _ (Raw from to 1_000_000) to code.No
      (rw p (line-piece from (line (drop from body)) 1_000_000 to k refl)) (omega arith) refl)

  module _ (na : starts_with four tail ≡ false) where
    pub after-ticks : starts_with (0x0A ∷ ticks) tail ≡ true → Answers (Paragraph at, cursor (at + 1 + 1) code.First)
    unfolding after_line_end when◌then◌else◌ piece_at
    after-ticks e = rw (na, e) (given at _ (Paragraph at) (at + 1 + 1) code.First (at_first at paragraph _ refl) (omega arith) refl)

    module _ (nb : starts_with (0x0A ∷ ticks) tail ≡ false) where
      pub after-four : starts_with (0x0A ∷ four) tail ≡ true → Answers (Paragraph at, cursor (at + 1) code.No)
      unfolding after_line_end when◌then◌else◌ piece_at
      after-four e = rw (na, nb, e) (given at _ (Paragraph at) (at + 1) code.No (at_first at paragraph _ refl) refl refl)

      module _ (nc : starts_with (0x0A ∷ four) tail ≡ false) where
        pub after_para : starts_with (0x0A ∷ []) tail ≡ true → Answers (Paragraph at, cursor (at + 1 + 1) code.No)
        unfolding after_line_end when◌then◌else◌ piece_at
        after_para e = rw (na, nb, nc, e) (given at _ (Paragraph at) (at + 1 + 1) code.No (at_first at paragraph _ refl) (omega arith) refl)

        module _ (nd : starts_with (0x0A ∷ []) tail ≡ false) where
          pub after_break : starts_with (0x20 ∷ []) tail ≡ true → Answers (LineBreak at, cursor (at + 1 + 1) code.No)
          unfolding after_line_end when◌then◌else◌ piece_at
          after_break e = rw (na, nb, nc, nd, e) (given at _ (LineBreak at) (at + 1 + 1) code.No (at_first at line_break _ refl) (omega arith) refl)

          pub after_space : starts_with (0x20 ∷ []) tail ≡ false → Answers (Space at, cursor (at + 1) code.No)
          unfolding after_line_end when◌then◌else◌ piece_at
          after_space e =
              rw (na, nb, nc, nd, e)
              (given at _ (Space at) (at + 1) code.No (at_first at (raw (0x20 ∷ []) 1) _ (space_piece at)) refl refl)

-- Outside ticks
module _ (body : List ℕ) (at : ℕ) (h : at < length body) where
  abbrev Plain : Piece × Cursor → Type 0
  Plain r = r ≡ answer at (step code.No (drop at body))

  -- by what the bytes from the place on start with
  module _ (n : starts_with (0x0A ∷ []) (drop at body) ≡ false) where
    pub space_step : starts_with (0x20 ∷ []) (drop at body) ≡ true → Plain (Space at, cursor (at + 1) code.No)
    unfolding step when◌then◌else◌
    space_step e = rw (n, e) (given at _ (Space at) (at + 1) code.No (at_first at (raw (0x20 ∷ []) 1) _ (space_piece at)) refl refl)

    pub word-step : (w : Word) → starts_with (0x20 ∷ []) (drop at body) ≡ false → w ≡ word_from body at
        → Plain (Raw at w.to w.width, cursor w.to code.No)
    unfolding step when◌then◌else◌
    word-step w m e =
        let f = ap (λ (x : Word). x.to) e in
        let g = ap (λ (x : Word). x.width) e in
        rw (n, m)
        (given at _ (Raw at w.to w.width) w.to code.No
        (at_first at _ _ (word_piece at (word (drop at body)) _ w.to f (word-no_space (drop at body)) ∙ ap (Raw at w.to) (sym g))) f refl)

  module _ (tail : List ℕ) (e : tail ≡ drop 1 (drop at body)) where
    pub line_follows : Follows body at tail
    line_follows = (h, e ∙ drop-drop 1 at body)

    pub line_step : (r : Piece × Cursor) → starts_with (0x0A ∷ []) (drop at body) ≡ true → r ≡ answer at (after_line_end tail) → Plain r
    unfolding step when◌then◌else◌
    line_step r n g = let q = sym e in rw (n, q) g

  -- by the byte at the place, as a reader of single bytes knows it
  starts-one : (x : ℕ) → starts_with (x ∷ []) (drop at body) ≡ eqb (get_or body at 0) x
  unfolding starts_with
  starts-one x = rw (drop-cons body at 0 h) (and-true _)

  module _ (n : get_or body at 0 ≡ 0x0A → ⊥) where
    pub plain_space : get_or body at 0 ≡ 0x20 → Plain (Space at, cursor (at + 1) code.No)
    plain_space e = space_step (starts-one 0x0A ∙ ne_eqb _ _ n) (starts-one 0x20 ∙ eq-eqb _ _ e)

    pub plain_word : (w : Word) → (get_or body at 0 ≡ 0x20 → ⊥) → w ≡ word_from body at
        → Plain (Raw at w.to w.width, cursor w.to code.No)
    plain_word w m e = word-step (starts-one 0x0A ∙ ne_eqb _ _ n) w (starts-one 0x20 ∙ ne_eqb _ _ m) e

-- In ticks
module _ (body : List ℕ) (at : ℕ) (r : Piece × Cursor) where
  pub first-tick : r ≡ answer at (ticked false (drop at body)) → r ≡ answer at (step code.First (drop at body))
  unfolding step
  first-tick g = g

  pub later-tick : (last : Bool) → last ≡ starts_with ticks (drop at body) → r ≡ answer at (ticked last (drop at body))
      → r ≡ answer at (step code.Rest (drop at body))
  unfolding step
  later-tick last e g = rw (← e) g

-- A step at a cursor

-- the two promises of a step
abbrev pub Answered : List ℕ → Cursor → Option (Piece × Cursor) → Type 0
Answered body c r = (r ≡ first_chunk body c) × Within body c r

module _ (body : List ℕ) (c : Cursor) where
  within : (r : Option (Piece × Cursor)) → r ≡ first_chunk body c → Answered body c r
  within r e = (e, rw e (first-within body c))

  pub answers_some : (d : Code) (r : Piece × Cursor) → c.at < length body → c.code ≡ d → r ≡ answer c.at (step d (drop c.at body))
      → Answered body c (Some r)
  answers_some d r h e g = within (Some r) (ap Some (rw (← e) at g) ∙ sym (first_some body c h))

  pub answers_none : length body ≤ c.at → Answered body c None
  answers_none h = within None (sym (first-none body c h))

-- What a loop over cursors learns of an answer

-- a chunk: those from here on are it and those from the next cursor on, which lies further on
pub record Took (body : List ℕ) (c : Cursor) (p : Piece) (d : Cursor) : Type 0 where
  pub chunks : placed_from body c ≡ placed_of body p ∷ placed_from body d
  pub piece : PieceWithin (length body) p
  pub further : c.at + 1 ≤ d.at
  pub short : d.at ≤ length body + 1

module _ (body : List ℕ) (c : Cursor) (r : Option (Piece × Cursor)) where
  pub took : (p : Piece) (d : Cursor) → r ≡ Some (p, d) → Answered body c r → Took body c p d
  took p d e a =
      let b : Answered body c (Some (p, d)) = rw e at a in
      record {
        chunks = placed-take body c p d b.0;
        piece = b.1.0;
        further = b.1.1;
        short = b.1.2;
      }

  -- none: none is left
  pub ended : r ≡ None → Answered body c r → placed_from body c ≡ []
  ended e a = let b : Answered body c None = rw e at a in placed-done body c b.0
