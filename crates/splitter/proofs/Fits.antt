-- One step: it moves on, and its chunk stands where it begins. Assumes nothing.
use Rattle.splitter.proofs.Names.{ℕ, ◌+◌, ◌≤◌, ◌≡◌, refl, Bool, true, false, false≢true, List, [], ◌∷◌, eqb, length, drop, length-drop, le_refl}
use Rattle.splitter.proofs.Names.{arith, eqb-true, when◌then◌else◌, starts_with, pick, and_left, and_fails, starts-length, characters, continues, Chunk}
use Rattle.splitter.proofs.Names.{raw, paragraph, line_break, before, line, word, ticks, four, is_line_end, is_line_end_or_space, Step, after_line_end, ticked}
use Rattle.splitter.proofs.Names.{step, Code}
use Rattle.splitter.specs.declared.Code.TheVariants as code
use Rattle.splitter.proofs.Before.{before-short}
use Rattle.splitter.proofs.Starts.{starts-head, before-starts}

-- A step takes up a byte at least, and at most one more than there are

abbrev pub Moves : List ℕ → Step → Type 0
Moves s r = (1 ≤ r.used) × (r.used ≤ length s + 1)

after_moves : (b : ℕ) (s : List ℕ) → Moves (b ∷ s) (after_line_end s)
unfolding after_line_end
after_moves b s =
    let P = Moves (b ∷ s) in
    pick P _ (λ e. let h = starts-length four s e in omega (arith, before-short is_line_end (drop 4 s), length-drop 4 s)) λ _.
    pick P _ (λ _. omega arith) λ _.
    pick P _ (λ _. omega arith) λ _.
    pick P _ (λ _. omega arith) λ _. pick P _ (λ _. omega arith) λ _. omega arith

word_moves : (b : ℕ) (s : List ℕ) → eqb b 0x0A ≡ false → eqb b 0x20 ≡ false → 1 ≤ length (word (b ∷ s))
unfolding when◌then◌else◌ before
word_moves b s n m = simp (n, m) (omega arith)

pub ticks-move : (b : ℕ) (s : List ℕ) → starts_with ticks (b ∷ s) ≡ true → 1 ≤ length (line (b ∷ s))
unfolding when◌then◌else◌ before starts_with
ticks-move b s e = rw (eqb-true b 0x60 (and_left (eqb b 0x60) _ e)) (omega arith)

ticked_moves : (last : Bool) (s : List ℕ) → (last ≡ true → 1 ≤ length (line s)) → Moves s (ticked last s)
unfolding ticked
ticked_moves last s h =
    let k = before-short is_line_end s in
    pick (λ (u : ℕ). (1 ≤ u) × (u ≤ length s + 1)) _ (λ e. (h (and_left last _ e), omega arith)) (λ _. omega arith)

pub moves : (c : Code) (b : ℕ) (s : List ℕ) → Moves (b ∷ s) (step c (b ∷ s))
unfolding step starts_with
moves code.No b s =
    let P = Moves (b ∷ s) in
    pick P _ (λ _. after_moves b s) λ n.
    pick P _ (λ _. omega arith) λ m.
    (word_moves b s (and_fails (eqb b 0x0A) n) (and_fails (eqb b 0x20) m), omega (arith, before-short is_line_end_or_space (b ∷ s)))
moves code.First b s = ticked_moves false (b ∷ s) (λ e. absurd (false≢true e))
moves code.Rest b s = ticked_moves (starts_with ticks (b ∷ s)) (b ∷ s) (ticks-move b s)

pub step_moves : (c : Code) (b : ℕ) (s : List ℕ) → 1 ≤ (step c (b ∷ s)).used
step_moves c b s = (moves c b s).0

-- A step's chunk stands where it begins

-- at most one character a byte
adds_most : (b : ℕ) → (when continues b then 0 else 1) ≤ 1
adds_most b = pick (λ (n : ℕ). n ≤ 1) (continues b) (λ _. omega arith) (λ _. omega arith)

-- a character has a byte at least
pub count_short : (s : List ℕ) → characters s ≤ length s
count_short [] = omega arith
count_short (b ∷ s) = let h = count_short s in let k = adds_most b in omega arith

-- what stands among some bytes where a chunk begins: its text; `\n` for the space of a line end, `\n\n` for a paragraph, `\n` and space for a break
pub data Stands (s : List ℕ) : ℕ → Chunk → Type 0 where
  text_stands : (at : ℕ) (text : List ℕ) (width : ℕ) → starts_with text (drop at s) ≡ true → Stands s at (raw text width)
  line_end_stands : (at : ℕ) → starts_with (0x0A ∷ []) (drop at s) ≡ true → Stands s at (raw (0x20 ∷ []) 1)
  paragraph_stands : (at : ℕ) → starts_with (0x0A ∷ 0x0A ∷ []) (drop at s) ≡ true → Stands s at paragraph
  break_stands : (at : ℕ) → starts_with (0x0A ∷ 0x20 ∷ []) (drop at s) ≡ true → Stands s at line_break

-- how many bytes a chunk has to itself where it begins: those of its text, or one; an empty code line has none
abbrev pub extent : Chunk → ℕ
extent (raw [] width) = when eqb width 1_000_000 then 0 else 1
extent (raw (b ∷ text) width) = length (b ∷ text)
extent paragraph = 1
extent line_break = 1

abbrev pub width_of : Chunk → ℕ
width_of (raw text width) = width
width_of paragraph = 0
width_of line_break = 0

extent_most : (text : List ℕ) (width n : ℕ) → length text ≤ n → 1 ≤ n → extent (raw text width) ≤ n
extent_most [] width n h k = pick (λ (m : ℕ). m ≤ n) (eqb width 1_000_000) (λ _. omega arith) (λ _. k)
extent_most (b ∷ text) width n h k = h

extent_code : (text : List ℕ) → extent (raw text 1_000_000) ≤ length text
unfolding when◌then◌else◌
extent_code [] = le_refl 0
extent_code (b ∷ text) = le_refl (length (b ∷ text))

-- its chunk stands there, ends within what it takes up and within the bytes, and is no wider than they are long, past 1,000,001
pub record Fits (s : List ℕ) (r : Step) : Type 0 where
  pub stands : Stands s r.begins r.chunk
  pub ends : r.begins + extent r.chunk ≤ r.used
  pub inside : r.begins + extent r.chunk ≤ length s
  pub narrow : width_of r.chunk ≤ length s + 1_000_001

-- a chunk that begins at the first of some bytes and has at most one to itself
gap_fits : (b : ℕ) (s : List ℕ) (c : Chunk) (n : ℕ) (d : Code) → (extent c ≤ 1) × (width_of c ≤ 1) × (1 ≤ n) → Stands (b ∷ s) 0 c
    → Fits (b ∷ s) (record { chunk = c; begins = 0; used = n; code = d })
gap_fits b s c n d h k = record { stands = k; ends = omega arith; inside = omega arith; narrow = omega arith }

code_fits : (s : List ℕ) → starts_with four s ≡ true
    → Fits (0x0A ∷ s) (record { chunk = raw (line (drop 4 s)) 1_000_000; begins = 5; used = 5 + length (line (drop 4 s)); code = code.No })
code_fits s e =
    let k = extent_code (line (drop 4 s)) in
    record {
      stands = text_stands 5 (line (drop 4 s)) 1_000_000 (before-starts is_line_end (drop 4 s));
      ends = omega arith;
      inside = omega (arith, starts-length four s e, before-short is_line_end (drop 4 s), length-drop 4 s);
      narrow = omega arith;
    }

after_fits : (s : List ℕ) → Fits (0x0A ∷ s) (after_line_end s)
unfolding after_line_end starts_with
after_fits s =
    let P = Fits (0x0A ∷ s) in
    pick P (starts_with four s) (λ e. code_fits s e) λ _.
    pick P (starts_with (0x0A ∷ ticks) s)
    (λ e. gap_fits 0x0A s paragraph 2 code.First (omega arith) (paragraph_stands 0 (starts-head 0x0A ticks s e))) λ _.
    pick P (starts_with (0x0A ∷ four) s)
    (λ e. gap_fits 0x0A s paragraph 1 code.No (omega arith) (paragraph_stands 0 (starts-head 0x0A four s e))) λ _.
    pick P (starts_with (0x0A ∷ []) s) (λ e. gap_fits 0x0A s paragraph 2 code.No (omega arith) (paragraph_stands 0 e)) λ _.
    pick P (starts_with (0x20 ∷ []) s) (λ e. gap_fits 0x0A s line_break 2 code.No (omega arith) (break_stands 0 e)) λ _.
    gap_fits 0x0A s (raw (0x20 ∷ []) 1) 1 code.No (omega arith) (line_end_stands 0 refl)

ticked_fits : (last : Bool) (b : ℕ) (s : List ℕ) → (last ≡ true → 1 ≤ length (line (b ∷ s))) → Fits (b ∷ s) (ticked last (b ∷ s))
unfolding ticked
ticked_fits last b s h =
    let w = line (b ∷ s) in
    record {
      stands = text_stands 0 w 1_000_001 (before-starts is_line_end (b ∷ s));
      ends = pick (λ (u : ℕ). 0 + extent (raw w 1_000_001) ≤ u) _
          (λ e. omega (arith, extent_most w 1_000_001 (length w) (le_refl (length w)) (h (and_left last _ e))))
          (λ _. omega (arith, extent_most w 1_000_001 (length w + 1) (omega arith) (omega arith)));
      inside = omega (arith, extent_most w 1_000_001 (length (b ∷ s)) (before-short is_line_end (b ∷ s)) (omega arith));
      narrow = omega arith;
    }

pub step_fits : (c : Code) (b : ℕ) (s : List ℕ) → Fits (b ∷ s) (step c (b ∷ s))
unfolding step starts_with
step_fits code.No b s =
    let P = Fits (b ∷ s) in
    pick P (starts_with (0x0A ∷ []) (b ∷ s)) (λ e. rw (eqb-true b 0x0A (and_left (eqb b 0x0A) true e)) (after_fits s)) λ n.
    pick P (starts_with (0x20 ∷ []) (b ∷ s)) (λ e. gap_fits b s (raw (0x20 ∷ []) 1) 1 code.No (omega arith) (text_stands 0 (0x20 ∷ []) 1 e)) λ m.
    let w = word (b ∷ s) in
    let h = word_moves b s (and_fails (eqb b 0x0A) n) (and_fails (eqb b 0x20) m) in
    let k = before-short is_line_end_or_space (b ∷ s) in
    record {
      stands = text_stands 0 w (characters w) (before-starts is_line_end_or_space (b ∷ s));
      ends = omega (arith, extent_most w (characters w) (length w) (le_refl (length w)) h);
      inside = omega (arith, extent_most w (characters w) (length (b ∷ s)) k (omega arith));
      narrow = omega (arith, count_short w);
    }
step_fits code.First b s = ticked_fits false b s (λ e. absurd (false≢true e))
step_fits code.Rest b s = ticked_fits (starts_with ticks (b ∷ s)) b s (ticks-move b s)
