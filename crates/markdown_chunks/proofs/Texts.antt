-- The texts of Markdown's chunks, and whether code lines are being written after one. Assumes nothing.
use Prim.Native.Nat.{ℕ, ◌≤◌, ◌<◌}
use mathlib.Core.Path.{◌≡◌, refl, sym, ◌∙◌}
use mathlib.Core.Bool.{true, false}
use mathlib.Core.List.{List, [], ◌∷◌}
use borrow.Author.Tests.{ne_eqb, lt-ltb, le-ltb}
use Rattle.base.specs.Choice.{when◌then◌else◌}
use Rattle.base.specs.Result.{◌>>=◌}
use Rattle.base.proofs.Choice.{if_true, if_false}
use Rattle.utf8.specs.Utf8.{bytes, encode}
use Rattle.room.specs.Room.{extended}
use Rattle.room.specs.Lent.{Lent, wrote, with_bytes}
use Rattle.room.proofs.Lents.{wrote_same, wrote_after, with_both}
use Rattle.splitter.specs.Answers.{chunk_of}
use Rattle.splitter.specs.Split.{raw}
use Rattle.splitter.specs.declared.Piece.{Piece}
use Rattle.splitter.specs.declared.Piece.TheVariants.{Paragraph, LineBreak}
use Rattle.html_rules.specs.Marks.{separated}
use Rattle.html_rules.specs.Markdown.{code_begins, code_stops, line_text, with_fenced, word_text, paragraph_text, bracketed}
use Rattle.html_rules.specs.declared.Markdown.{Markdown}
use Rattle.markdown_chunks.specs.InnerParts.{raw_rule, chunk_rule, fencing}

module _ (old mid new : Lent) where
  -- A line
  pub line_wrote : (mid₂ : Lent) (x : List ℕ) → mid ≡ with_bytes (0x20 ∷ 0x20 ∷ []) old → mid₂ ≡ with_bytes x mid → new ≡ with_bytes (0x0A ∷ []) mid₂
      → new ≡ with_bytes (line_text x) old
  unfolding bytes encode when◌then◌else◌
  line_wrote mid₂ x u v w = with_both old mid₂ new (0x20 ∷ 0x20 ∷ x) (0x0A ∷ []) (with_both old mid mid₂ (0x20 ∷ 0x20 ∷ []) x u v) w

  -- A text with its width
  module _ (l : Markdown) (x : List ℕ) (w : ℕ) where
    pub raw-ticked : w ≡ 1_000_001 → mid ≡ wrote (λ size. separated size (0x0A ∷ [])) old → new ≡ with_bytes (line_text x) mid
        → new ≡ wrote (λ size. raw_rule size l x w) old
    unfolding raw_rule bytes encode when◌then◌else◌
    raw-ticked e u v =
        wrote_after old mid new (λ size. separated size (0x0A ∷ [])) (λ size. extended size (line_text x)) u v
        ∙ wrote_same old (λ size o. separated size (0x0A ∷ []) o >>= extended size (line_text x)) (λ size. raw_rule size l x w) (λ o f. rw e)

    pub raw-code : w ≡ 1_000_000 → mid ≡ with_bytes (code_begins l) old → new ≡ with_bytes (line_text x) mid → new ≡ wrote (λ size. raw_rule size l x w) old
    unfolding raw_rule when◌then◌else◌
    raw-code e u v =
        wrote_after old mid new (λ size. extended size (code_begins l)) (λ size. extended size (line_text x)) u v
        ∙ wrote_same old (λ size o. extended size (code_begins l) o >>= extended size (line_text x)) (λ size. raw_rule size l x w) (λ o f. rw e)

    pub raw_word : (w ≡ 1_000_001 → ⊥) → (w ≡ 1_000_000 → ⊥) → mid ≡ with_bytes (code_stops l) old → new ≡ with_bytes (word_text l x) mid
        → new ≡ wrote (λ size. raw_rule size l x w) old
    unfolding raw_rule when◌then◌else◌
    raw_word e f u v =
        wrote_after old mid new (λ size. extended size (code_stops l)) (λ size. extended size (word_text l x)) u v
        ∙ wrote_same old (λ size o. extended size (code_stops l) o >>= extended size (word_text l x)) (λ size. raw_rule size l x w)
        (λ o g. rw (ne_eqb w 1_000_001 e, ne_eqb w 1_000_000 f))

-- A word
module _ (l : Markdown) (x : List ℕ) where
  pub word-mono : 0 < l.mono → bracketed x ≡ word_text l x
  word-mono h = sym (if_true _ _ (lt-ltb 0 l.mono h))

  pub word-plain : l.mono ≤ 0 → x ≡ word_text l x
  word-plain h = sym (if_false _ _ (le-ltb 0 l.mono h))

-- A chunk that is no word
module _ (l : Markdown) (body : List ℕ) (p : Piece) (old new : Lent) where
  pub piece-paragraph : {at : ℕ} → p ≡ Paragraph at → new ≡ with_bytes (paragraph_text l) old → new ≡ wrote (λ size. chunk_rule size l (chunk_of body p)) old
  piece-paragraph e w = rw e w

  pub piece_break : {at : ℕ} → p ≡ LineBreak at → new ≡ with_bytes (0x0A ∷ []) old → new ≡ wrote (λ size. chunk_rule size l (chunk_of body p)) old
  unfolding bytes encode when◌then◌else◌
  piece_break e w = rw e w

-- Code lines after a text with its width, and after a chunk that is no text
module _ (l : Markdown) (x : List ℕ) (w : ℕ) where
  pub fencing_ticked : w ≡ 1_000_001 → l ≡ fencing (raw x w) l
  unfolding when◌then◌else◌
  fencing_ticked e = rw e refl

  pub fencing_code : w ≡ 1_000_000 → with_fenced true l ≡ fencing (raw x w) l
  unfolding when◌then◌else◌
  fencing_code e = rw e refl

  pub fencing_word : (w ≡ 1_000_001 → ⊥) → (w ≡ 1_000_000 → ⊥) → with_fenced false l ≡ fencing (raw x w) l
  unfolding when◌then◌else◌
  fencing_word e f = rw (ne_eqb w 1_000_001 e, ne_eqb w 1_000_000 f) refl

module _ (l : Markdown) (body : List ℕ) (p : Piece) {at : ℕ} where
  pub fencing_paragraph : p ≡ Paragraph at → l ≡ fencing (chunk_of body p) l
  fencing_paragraph e = rw e refl
