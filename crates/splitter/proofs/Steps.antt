-- The chunks of a body one step at a time: those from a cursor on are the first and those from the next cursor on. Assumes nothing.
use Rattle.splitter.proofs.Names.{ℕ, zero, suc, ◌+◌, ◌-◌, ◌≤◌, ◌<◌, ◌≡◌, refl, sym, ap, ap₂, ◌∙◌, true, false, ◌&&◌, and-false, ⊎_elim, List, [], ◌∷◌}
use Rattle.splitter.proofs.Names.{eqb, length, take, drop, length-drop, drop_of_length-le, drop-drop, drop-cons, arith, eqb-true, le-leb, lt-leb}
use Rattle.splitter.proofs.Names.{when◌then◌else◌, starts_with, pick, and_left, and_right, le_or_lt, starts-length, drop_less, Chunk, raw, paragraph}
use Rattle.splitter.proofs.Names.{line_break, is_space, Step, step, Placed, placed, split, Code, Cursor, Piece, Raw, Space, Some, None}
use Rattle.splitter.specs.Answers.{piece_at, answer, first_chunk, placed_of, cursor, start, placed_from, PieceWithin, Within}
use Rattle.splitter.proofs.Starts.{starts-take, is_space-one}
use Rattle.splitter.proofs.Fits.{Moves, moves, step_moves, Stands, text_stands, line_end_stands, paragraph_stands, break_stands, width_of, Fits, step_fits}

-- The chunks after a step

placed_pass : (at : ℕ) (c : Code) (s : List ℕ) (pass : ℕ) → placed at c pass s ≡ placed (at + pass) c 0 (drop pass s)
unfolding placed
placed_pass at c [] zero = refl
placed_pass at c [] (suc pass) = refl
placed_pass at c (b ∷ s) zero = let e : at + 0 ≡ at = omega arith in rw e
placed_pass at c (b ∷ s) (suc pass) =
    let e : at + 1 + pass ≡ at + suc pass = omega arith in
    placed_pass (at + 1) c s pass ∙ ap (λ (n : ℕ). placed n c 0 (drop pass s)) e

-- the chunk of a step for the bytes at a place
abbrev pub placed_at : ℕ → Step → Placed
placed_at at r = record { place = at + r.begins; chunk = r.chunk }

-- the first chunk, and those after what it takes up
placed-step : (at : ℕ) (c : Code) (b : ℕ) (s : List ℕ)
    → placed at c 0 (b ∷ s)
    ≡ placed_at at (step c (b ∷ s)) ∷ placed (at + (step c (b ∷ s)).used) (step c (b ∷ s)).code 0 (drop (step c (b ∷ s)).used (b ∷ s))
unfolding placed
placed-step at c b s =
    let r = step c (b ∷ s) in
    let h = step_moves c b s in
    let e : at + 1 + (r.used - 1) ≡ at + r.used = omega arith in
    ap (λ (ps : List Placed). placed_at at r ∷ ps)
    (placed_pass (at + 1) r.code s (r.used - 1)
    ∙ ap₂ (λ (n : ℕ) (l : List ℕ). placed n r.code 0 l) e (sym (drop_less r.used b s h)))

-- Pieces

-- the chunk of one space, a text that is no space, and one of another width
pub space_piece : (at : ℕ) → piece_at at (raw (0x20 ∷ []) 1) ≡ Space at
unfolding piece_at is_space when◌then◌else◌
space_piece at = refl

module _ (at : ℕ) (text : List ℕ) (width to : ℕ) (f : to ≡ at + length text) where
  pub word_piece : is_space text ≡ false → piece_at at (raw text width) ≡ Raw at to width
  unfolding piece_at when◌then◌else◌
  word_piece e = rw e (ap (λ (n : ℕ). Raw at n width) (sym f))

  pub line-piece : eqb width 1 ≡ false → piece_at at (raw text width) ≡ Raw at to width
  unfolding piece_at when◌then◌else◌
  line-piece e = rw (e, and-false) (ap (λ (n : ℕ). Raw at n width) (sym f))

module _ (body : List ℕ) (at : ℕ) where
  -- what stands at a place of a body is the chunk of the piece there
  piece-chunk : (c : Chunk) → Stands body at c → placed_of body (piece_at at c) ≡ record { place = at; chunk = c }
  unfolding piece_at
  piece-chunk (raw text width) (text_stands at' text' width' e) =
      pick (λ (p : Piece). placed_of body p ≡ record { place = at; chunk = raw text width }) (is_space text && eqb width 1)
      (λ s. ap₂ (λ (x : List ℕ) (w : ℕ). record { place = at; chunk = raw x w })
      (sym (is_space-one text (and_left _ _ s))) (sym (eqb-true width 1 (and_right (is_space text) _ s))))
      (λ _. let n : at + length text - at ≡ length text = omega arith in
      ap (λ (x : List ℕ). record { place = at; chunk = raw x width }) (ap (λ (k : ℕ). take k (drop at body)) n ∙ starts-take text (drop at body) e))
  piece-chunk (raw text width) (line_end_stands at' e) = ap (placed_of body) (space_piece at)
  piece-chunk paragraph (paragraph_stands at' e) = refl
  piece-chunk line_break (break_stands at' e) = refl

  starts-inside : (w : List ℕ) → starts_with w (drop at body) ≡ true → 1 ≤ length w → at + length w ≤ length body
  starts-inside w e h = omega (arith, starts-length w (drop at body) e, length-drop at body)

  piece-within : (c : Chunk) → Stands body at c → at ≤ length body → width_of c ≤ length body + 1_000_001 → PieceWithin (length body) (piece_at at c)
  unfolding piece_at
  piece-within (raw text width) (text_stands at' text' width' e) h w =
      pick (PieceWithin (length body)) (is_space text && eqb width 1)
      (λ s. omega (arith, ap length (is_space-one text (and_left _ _ s)), starts-length text (drop at body) e, length-drop at body))
      (λ _. (omega arith, omega (arith, starts-length text (drop at body) e, length-drop at body), w))
  piece-within (raw text width) (line_end_stands at' e) h w = rw (space_piece at) (omega (arith, starts-inside (0x0A ∷ []) e (omega arith)))
  piece-within paragraph (paragraph_stands at' e) h w = omega (arith, starts-inside (0x0A ∷ 0x0A ∷ []) e (omega arith))
  piece-within line_break (break_stands at' e) h w = omega (arith, starts-inside (0x0A ∷ 0x20 ∷ []) e (omega arith))

-- what stands among the bytes from a place on stands in the body, so much further on
pub stands_from : (body : List ℕ) (at n : ℕ) (c : Chunk) → Stands (drop at body) n c → Stands body (at + n) c
stands_from body at n (raw text width) (text_stands n' text' width' e) = text_stands (at + n) text width (rw (drop-drop n at body) at e)
stands_from body at n (raw text width) (line_end_stands n' e) = line_end_stands (at + n) (rw (drop-drop n at body) at e)
stands_from body at n paragraph (paragraph_stands n' e) = paragraph_stands (at + n) (rw (drop-drop n at body) at e)
stands_from body at n line_break (break_stands n' e) = break_stands (at + n) (rw (drop-drop n at body) at e)

-- From a cursor on

-- the step at a place of a body, and the cursor after it
abbrev pub step_from : List ℕ → Cursor → Step
step_from body c = step c.code (drop c.at body)

abbrev pub next_from : List ℕ → Cursor → Cursor
next_from body c = cursor (c.at + (step_from body c).used) (step_from body c).code

module _ (body : List ℕ) (c : Cursor) where
  pub first-none : length body ≤ c.at → first_chunk body c ≡ None
  unfolding first_chunk when◌then◌else◌
  first-none h = rw (le-leb _ _ h)

  pub first_some : c.at < length body → first_chunk body c ≡ Some (answer c.at (step_from body c))
  unfolding first_chunk when◌then◌else◌
  first_some h = rw (lt-leb _ _ h)

  module _ (h : c.at < length body) where
    from_moves : Moves (drop c.at body) (step_from body c)
    from_moves = rw (drop-cons body c.at 0 h) (moves c.code _ _)

    from_fits : Fits (drop c.at body) (step_from body c)
    from_fits = rw (drop-cons body c.at 0 h) (step_fits c.code _ _)

    from-stands : Stands body (c.at + (step_from body c).begins) (step_from body c).chunk
    from-stands = stands_from body c.at (step_from body c).begins (step_from body c).chunk from_fits.stands

    placed-next : placed_from body c ≡ placed_at c.at (step_from body c) ∷ placed_from body (next_from body c)
    placed-next =
        let r = step_from body c in
        let q = drop-cons body c.at 0 h in
        let f : placed_from body c ≡ placed_at c.at r ∷ placed (c.at + r.used) r.code 0 (drop r.used (drop c.at body))
        = rw q (placed-step c.at c.code _ _) in
        f ∙ ap (λ (l : List ℕ). placed_at c.at r ∷ placed (c.at + r.used) r.code 0 l) (drop-drop r.used c.at body)

    -- what an answer says of the chunk and of the next cursor
    next-is : (p : Piece) (d : Cursor) → Some (p, d) ≡ first_chunk body c
        → (placed_of body p ≡ placed_at c.at (step_from body c)) × (d ≡ next_from body c)
    unfolding answer
    next-is p d e =
        let e' = e ∙ first_some h in
        let f : (p, d) ≡ (piece_at (c.at + (step_from body c).begins) (step_from body c).chunk, next_from body c) = cc in
        let g = piece-chunk body (c.at + (step_from body c).begins) (step_from body c).chunk from-stands in
        (ap (λ (x : Piece × Cursor). placed_of body x.0) f ∙ g, ap (λ (x : Piece × Cursor). x.1) f)

    some-within : Within body c (Some (answer c.at (step_from body c)))
    unfolding answer
    some-within =
        let l = length-drop c.at body in
        let m = from_moves in
        let f = from_fits in
        let r = step_from body c in
        let w = piece-within body (c.at + r.begins) r.chunk from-stands (omega (arith, f.inside)) (omega (arith, f.narrow)) in
        (w, omega arith, omega arith)

  -- the bounds follow
  pub first-within : Within body c (first_chunk body c)
  first-within =
      ⊎_elim (λ (h : length body ≤ c.at). rw (first-none h) h)
      (λ (h : c.at < length body). rw (first_some h) (some-within h)) (le_or_lt (length body) c.at)

  -- where no chunk is left
  pub placed-done : None ≡ first_chunk body c → placed_from body c ≡ []
  unfolding placed answer
  placed-done e =
      ⊎_elim (λ (h : length body ≤ c.at). rw (drop_of_length-le body h))
      (λ (h : c.at < length body). let f = e ∙ first_some h in cc) (le_or_lt (length body) c.at)

  -- a chunk that a step gives, and the chunks from the next cursor on
  pub placed-take : (p : Piece) (d : Cursor) → Some (p, d) ≡ first_chunk body c → placed_from body c ≡ placed_of body p ∷ placed_from body d
  placed-take p d e =
      ⊎_elim (λ (h : length body ≤ c.at). let f = e ∙ first-none h in cc)
      (λ (h : c.at < length body).
      let n = next-is h p d e in
      placed-next h ∙ ap₂ (λ (x : Placed) (k : Cursor). x ∷ placed_from body k) (sym n.0) (sym n.1))
      (le_or_lt (length body) c.at)

-- From the start

pub split-start : (body : List ℕ) → split body ≡ placed_from body start
unfolding split
split-start body = refl
