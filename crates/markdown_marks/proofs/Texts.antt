-- The texts of Markdown's styles and blocks. Assumes nothing.
use Rattle.markdown_marks.proofs.Names.{ℕ, ◌≡◌, ap, ◌∙◌, refl, sym, List, [], ◌∷◌, length, when◌then◌else◌, bytes, encode, ◌>>=◌, AtStart, started, arith}
use Rattle.markdown_marks.proofs.Names.{with_style, Markdown, Block, start_of, end_of, text_of, with_bytes, wrote}
use mathlib.Core.Bool.{Bool, true, false}
use mathlib.Core.Logic.{◌⊎◌, ⊎_elim}
use borrow.Author.Tests.{le-leb}
use Rattle.base.specs.Bytes.{ends_with, starts_with}
use Rattle.base.specs.Result.{Result}
use Rattle.base.proofs.Results.{bind_assoc}
use Rattle.room.specs.Room.{extended}
use Rattle.room.specs.Lent.{Lent}
use Rattle.room.specs.declared.Text.{Text}
use Rattle.room.proofs.Lents.{with_none, with_same, wrote_after}
use Rattle.records.specs.declared.Style.{Style}
use Rattle.records.specs.declared.Style.TheVariants as style
use Rattle.records.specs.declared.Block.TheVariants as block
use Rattle.html_rules.specs.Marks.{separated}
use Rattle.html_rules.specs.Markdown.{bullet}
use Rattle.html_marks.proofs.Marks.{separated_ends}
use Rattle.markdown_marks.specs.InnerParts.{marks, closed, start_rule, started_text, ended_text}

-- no bytes more, and no line of its own
pub no_bytes : (t : Text) → text_of t ≡ with_bytes [] (text_of t)
no_bytes t = sym (with_none t.room.ghost_name t.room.now t.len)

pub no_line : (v : Lent) → v ≡ wrote (λ size. separated size []) v
unfolding ends_with starts_with
no_line v = separated_ends [] v (λ o e. nothing o)
  where
    nothing : (o : List ℕ) → true ≡ ends_with [] o
    nothing o = rw (le-leb 0 (length o) (omega arith)) refl

-- Text has no marks
pub marks_none : (opens : Bool) → [] ≡ marks opens style.Text
unfolding bytes encode when◌then◌else◌
marks_none true = refl
marks_none false = refl

-- the texts of a term's start
pub term_texts : (b : Block) (l : Markdown) → (b ≡ block.Section4) ⊎ (b ≡ block.ItemTerm) → (empty : Bool) → l.bare ≡ empty
    → ([] ≡ (start_of l b).lead) × (0x0A ∷ [] ≡ (start_of l b).line) × (bullet empty ≡ (start_of l b).text)
unfolding start_of started bytes encode when◌then◌else◌
term_texts b l = ⊎_elim (λ e x f. rw (e, f) (refl, refl, refl)) (λ e x f. rw (e, f) (refl, refl, refl))

-- What goes out at a block's start and at its end, after the open style is closed
module _ (old new : Lent) (t : Text) (b : Block) (l : Markdown) (closes : text_of t ≡ wrote (λ size. closed size l.style) old) where
  abbrev pub starts : AtStart
  starts = start_of (with_style style.Text l) b

  pub started_wrote : (lead line text : List ℕ) (i j : Lent) → (lead ≡ starts.lead) × (line ≡ starts.line) × (text ≡ starts.text)
      → i ≡ with_bytes lead (text_of t) → j ≡ wrote (λ size. separated size line) i → new ≡ with_bytes text j
      → new ≡ wrote (λ size. started_text size l b) old
  unfolding start_rule
  started_wrote lead line text i j e u v w =
      wrote_after old (text_of t) new (λ size. closed size l.style) (λ size. start_rule size (with_style style.Text l) b) closes
      (wrote_after (text_of t) j new (λ size x. extended size starts.lead x >>= separated size starts.line) (λ size. extended size starts.text)
      (wrote_after (text_of t) i j (λ size. extended size starts.lead) (λ size. separated size starts.line) (with_same _ _ _ _ e.0 u)
      (v ∙ ap (λ (y : List ℕ). wrote (λ size. separated size y) i) e.1)) (with_same _ _ _ _ e.2 w))

  pub started_line : (line text : List ℕ) (j : Lent) → ([] ≡ starts.lead) × (line ≡ starts.line) × (text ≡ starts.text)
      → j ≡ wrote (λ size. separated size line) (text_of t) → new ≡ with_bytes text j → new ≡ wrote (λ size. started_text size l b) old
  started_line line text j e v w = started_wrote [] line text (text_of t) j e (no_bytes t) v w

  pub started_only : (text : List ℕ) → ([] ≡ starts.lead) × ([] ≡ starts.line) × (text ≡ starts.text) → new ≡ with_bytes text (text_of t)
      → new ≡ wrote (λ size. started_text size l b) old
  started_only text e w = started_line [] text (text_of t) e (no_line (text_of t)) w

  pub started_none : new ≡ text_of t → ([] ≡ starts.lead) × ([] ≡ starts.line) × ([] ≡ starts.text)
      → new ≡ wrote (λ size. started_text size l b) old
  started_none w e = started_only [] e (w ∙ no_bytes t)

  pub ended_wrote : (text : List ℕ) → text ≡ (end_of (with_style style.Text l) b).text → new ≡ with_bytes text (text_of t)
      → new ≡ wrote (λ size. ended_text size l b) old
  ended_wrote text e w =
      wrote_after old (text_of t) new (λ size. closed size l.style) (λ size. extended size (end_of (with_style style.Text l) b).text) closes
      (with_same _ _ _ _ e w)

-- a rule after the style is closed
pub closed_then : (old new : Lent) (st : Style) (rule : List ℕ → Result (List ℕ)) → new ≡ wrote (λ size. closed size st) old
    → (new.shown >>= rule) ≡ (old.shown >>= λ x. closed old.size st x >>= rule)
closed_then old new st rule e = ap (λ (v : Lent). v.shown >>= rule) e ∙ sym (bind_assoc old.shown (closed old.size st) rule)
