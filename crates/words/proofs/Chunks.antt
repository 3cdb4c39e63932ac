-- The first chunk of a run of words: it ends within the run. Assumes nothing.
use Rattle.words.proofs.Names.{ℕ, zero, suc, ◌+◌, ◌-◌, ◌≤◌, ◌<◌, ◌≡◌, refl, sym, ap, ◌∙◌, Bool, false, ⊎_elim, List, [], ◌∷◌, length, take, drop}
use Rattle.words.proofs.Names.{get_or, length-drop, get_or-drop, arith, part, when◌then◌else◌, le_or_lt, characters, is_line_end_or_space, raw}
use Rattle.words.proofs.Names.{placed_from, cursor, neither_ends, NoLineEnd, NoWordCut}
use mathlib.Core.Bool.{false≢true}
use Rattle.base.proofs.Choice.{pick, eq_or_not}
use Rattle.splitter.specs.Split.{before, word}
use Rattle.splitter.specs.InnerParts.{word_from}
use Rattle.splitter.specs.declared.Code.TheVariants as code
use Rattle.splitter.specs.declared.Piece.TheVariants.{Raw, Space}
use Rattle.splitter.proofs.Before.{before-short, before-go, before-part, space_ends}
use Rattle.splitter.proofs.Steps.{placed-take}
use Rattle.splitter.proofs.Answers.{plain_word, plain_space, answers_some}
use Rattle.words.proofs.Copying.{take-one}

-- none of the bytes before the first that passes a test passes it
before-inside : (stop : ℕ → Bool) (s : List ℕ) (k : ℕ) → k < length (before stop s) → stop (get_or s k 0) ≡ false
unfolding before
before-inside stop [] k h = absurd (omega arith)
before-inside stop (b ∷ s) zero h = pick (λ (w : List ℕ). 0 < length w → stop b ≡ false) (stop b) (λ e l. absurd (omega arith)) (λ e l. e) h
before-inside stop (b ∷ s) (suc k) h =
    pick (λ (w : List ℕ). suc k < length w → stop (get_or s k 0) ≡ false) (stop b) (λ e l. absurd (omega arith))
    (λ e l. before-inside stop s k (omega arith)) h

-- a space is one character
one_character : characters (0x20 ∷ []) ≡ 1
unfolding when◌then◌else◌
one_character = refl

-- a chunk that starts a run: the bytes up to a place of the run, as they stand
pub record First (x : List ℕ) (at to : ℕ) : Type 0 where
  pub next : ℕ
  pub more : at < next
  pub near : next ≤ to
  pub chunks : placed_from x (cursor at code.No)
      ≡ record { place = at; chunk = raw (part x at next) (characters (part x at next)) } ∷ placed_from x (cursor next code.No)

module _ (x : List ℕ) (at to : ℕ) (h : at < to) (inside : to ≤ length x) (plain : NoLineEnd x at to) (whole : NoWordCut x to) where
  first_space : get_or x at 0 ≡ 0x20 → First x at to
  first_space e =
      let z : at + 1 - at ≡ 1 = omega arith in
      let one : take 1 (drop at x) ≡ 0x20 ∷ [] = take-one x at (omega arith) ∙ ap (λ (b : ℕ). b ∷ []) e in
      record {
        next = at + 1;
        more = omega arith;
        near = omega arith;
        chunks = rw (z, one, one_character)
            (placed-take x (cursor at code.No) (Space at) (cursor (at + 1) code.No)
            (answers_some x (cursor at code.No) code.No (Space at, cursor (at + 1) code.No) (omega arith) refl
            (plain_space x at (omega arith) (plain at (omega arith) h) e)).0);
      }

  first_word : (get_or x at 0 ≡ 0x20 → ⊥) → First x at to
  first_word n = record {
    next = end';
    more = omega (arith, ap length (before-go is_line_end_or_space x at (omega arith) (neither_ends (get_or x at 0) line n)));
    near = ⊎_elim (λ (l : end' ≤ to). l) (λ (l : to < end'). absurd (past l)) (le_or_lt end' to);
    chunks =
        placed-take x (cursor at code.No) (Raw at end' (characters (word (drop at x)))) (cursor end' code.No)
        (answers_some x (cursor at code.No) code.No (Raw at end' (characters (word (drop at x))), cursor end' code.No) (omega arith) refl
        (plain_word x at (omega arith) line (word_from x at) n refl)).0
        ∙ ap (λ (w : ℕ). record { place = at; chunk = raw (part x at end') w } ∷ placed_from x (cursor end' code.No))
        (sym (ap characters (before-part is_line_end_or_space x at end' refl)));
  }
    where
      end' : ℕ
      end' = at + length (word (drop at x))

      line : get_or x at 0 ≡ 0x0A → ⊥
      line = plain at (omega arith) h

      -- no byte of the word ends it
      inner : (k : ℕ) → at ≤ k → k < end' → is_line_end_or_space (get_or x k 0) ≡ false
      inner k a b =
          let s : at + (k - at) ≡ k = omega arith in
          ap (λ (j : ℕ). is_line_end_or_space (get_or x j 0)) (sym s)
          ∙ ap is_line_end_or_space (sym (get_or-drop at x (k - at) 0))
          ∙ before-inside is_line_end_or_space (drop at x) (k - at) (omega arith)

      past : to < end' → ⊥
      past l =
          let f : to < length x = omega (arith, before-short is_line_end_or_space (drop at x), length-drop at x) in
          let g = whole f (inner to (omega arith) l) in
          false≢true (sym (inner (to - 1) (omega arith) (omega arith)) ∙ space_ends (get_or x (to - 1) 0) g)

  pub first_chunk : First x at to
  first_chunk = ⊎_elim first_space first_word (eq_or_not (get_or x at 0) 0x20)
