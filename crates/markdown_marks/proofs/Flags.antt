-- The numbers and flags of Markdown after a block. Assumes nothing.
use Rattle.markdown_marks.proofs.Names.{ℕ, ◌+◌, ◌≤◌, ◌≡◌, refl, ap, ◌∙◌, arith, when◌then◌else◌, gives, refused}
use Rattle.markdown_marks.proofs.Names.{Block, with_style, with_skip, with_bare, started, ended, Markdown, start_of, end_of}
use mathlib.Core.Bool.{Bool, true, false, ◌||◌}
use mathlib.Core.Logic.{◌⊎◌, ⊎_elim}
use lib.Dec.{eqb}
use Rattle.records.specs.Records.{index}
use Rattle.records.specs.declared.Style.{Style}
use Rattle.records.specs.declared.Block.TheVariants as block
use Rattle.records.proofs.Tables.{index-apart}
use Rattle.document.specs.Document.{max_bytes}
use Rattle.skip.specs.Counter.{skip_start}
use Rattle.skip.specs.Answers.{new_if_fits}
use Rattle.skip.proofs.Counter.{new_fits, skip-start_most, skip-end_most}
use Rattle.markdown_marks.specs.InnerParts.{met_term, Few}

-- an ItemTerm or a Section4 meets a term, the others do not
module _ (b : Block) (empty : Bool) (l : Markdown) where
  pub item : (b ≡ block.Section4) ⊎ (b ≡ block.ItemTerm) → (r : Bool) → r ≡ empty → with_bare r l ≡ met_term b empty l
  unfolding met_term when◌then◌else◌
  item = ⊎_elim (λ e r f. rw (e, f)) (λ e r f. rw (e, f))

  pub no_item : (b ≡ block.Section4 → ⊥) → (b ≡ block.ItemTerm → ⊥) → l ≡ met_term b empty l
  unfolding met_term when◌then◌else◌
  no_item n m = rw (index-apart b block.Section4 n, index-apart b block.ItemTerm m)

-- the skip counter of an accepted document grows past no bound
pub inline-start : (b : Block) (l : Markdown) → l.skip ≤ max_bytes → (k : ℕ) → b ≡ block.InlineBlock
    → k ≡ new_if_fits l.skip (skip_start block.InlineBlock l.skip) → with_skip k l ≡ (start_of l b).after
unfolding start_of started
inline-start b l few k e f =
    rw e (ap (λ (n : ℕ). with_skip n l)
    (f ∙ new_fits l.skip (skip_start block.InlineBlock l.skip) (omega (arith, few, skip-start_most block.InlineBlock l.skip))))

-- of a block's start and end the rules refuse Meta's
pub start_told : (p : ℕ) (b : Block) (empty : Bool) (l : Markdown)
    → started p b empty l ≡ (when eqb (index b) 10 then refused 11 p else gives (start_of (met_term b empty l) b))
unfolding start_of started met_term when◌then◌else◌
start_told p block.Header empty l = refl
start_told p block.Section2 empty l = refl
start_told p block.Section3 empty l = refl
start_told p block.Section4 empty l = refl
start_told p block.ItemTerm empty l = refl
start_told p block.ItemBody empty l = refl
start_told p block.DefinitionList empty l = refl
start_told p block.Block empty l = refl
start_told p block.InlineBlock empty l = refl
start_told p block.TermRef empty l = refl
start_told p block.Meta empty l = refl
start_told p block.Mono empty l = refl

pub end_told : (p : ℕ) (b : Block) (l : Markdown) → ended p b l ≡ (when eqb (index b) 10 then refused 11 p else gives (end_of l b))
unfolding end_of ended when◌then◌else◌
end_told p block.Header l = refl
end_told p block.Section2 l = refl
end_told p block.Section3 l = refl
end_told p block.Section4 l = refl
end_told p block.ItemTerm l = refl
end_told p block.ItemBody l = refl
end_told p block.DefinitionList l = refl
end_told p block.Block l = refl
end_told p block.InlineBlock l = refl
end_told p block.TermRef l = refl
end_told p block.Meta l = refl
end_told p block.Mono l = refl

-- both numbers grow by one at most where a block starts, and not where it ends
pub start_few : (b : Block) (l : Markdown) → ((start_of l b).after.skip ≤ l.skip + 1) × ((start_of l b).after.mono ≤ l.mono + 1)
unfolding start_of started
start_few block.Header l = (omega arith, omega arith)
start_few block.Section2 l = (omega arith, omega arith)
start_few block.Section3 l = (omega arith, omega arith)
start_few block.Section4 l = (omega arith, omega arith)
start_few block.ItemTerm l = (omega arith, omega arith)
start_few block.ItemBody l = (omega arith, omega arith)
start_few block.DefinitionList l = (omega arith, omega arith)
start_few block.Block l = (omega arith, omega arith)
start_few block.InlineBlock l = (skip-start_most block.InlineBlock l.skip, omega arith)
start_few block.TermRef l = (omega arith, omega arith)
start_few block.Meta l = (omega arith, omega arith)
start_few block.Mono l = (omega arith, omega arith)

pub end_few : (b : Block) (l : Markdown) → ((end_of l b).after.skip ≤ l.skip) × ((end_of l b).after.mono ≤ l.mono)
unfolding end_of ended
end_few block.Header l = (omega arith, omega arith)
end_few block.Section2 l = (omega arith, omega arith)
end_few block.Section3 l = (omega arith, omega arith)
end_few block.Section4 l = (omega arith, omega arith)
end_few block.ItemTerm l = (omega arith, omega arith)
end_few block.ItemBody l = (omega arith, omega arith)
end_few block.DefinitionList l = (omega arith, omega arith)
end_few block.Block l = (omega arith, omega arith)
end_few block.InlineBlock l = (skip-end_most block.InlineBlock l.skip, omega arith)
end_few block.TermRef l = (omega arith, omega arith)
end_few block.Meta l = (omega arith, omega arith)
end_few block.Mono l = (omega arith, omega arith)

module _ (b : Block) (empty : Bool) (l : Markdown) where
  -- a term that is met changes neither of them, nor the style, and is met whichever style is open
  met_flag : {A : Type 0} (f : Markdown → A) → f (with_bare empty l) ≡ f l → f (met_term b empty l) ≡ f l
  unfolding met_term when◌then◌else◌
  met_flag f e = go (eqb (index b) 3 || eqb (index b) 4)
    where
      go : (t : Bool) → f (when t then with_bare empty l else l) ≡ f l
      go true = e
      go false = refl

  pub met_few : Few l → Few (met_term b empty l)
  met_few f = record { skipped = rw (met_flag (λ m. m.skip) refl) f.skipped; opened = rw (met_flag (λ m. m.mono) refl) f.opened }

  pub met_skip : (met_term b empty l).skip ≡ l.skip
  met_skip = met_flag (λ m. m.skip) refl

  pub met_mono : (met_term b empty l).mono ≡ l.mono
  met_mono = met_flag (λ m. m.mono) refl

  pub met_style : (met_term b empty l).style ≡ l.style
  met_style = met_flag (λ m. m.style) refl

  pub met_styled : (st : Style) → met_term b empty (with_style st l) ≡ with_style st (met_term b empty l)
  unfolding met_term when◌then◌else◌
  met_styled st = go (eqb (index b) 3 || eqb (index b) 4)
    where
      go : (t : Bool) → (when t then with_bare empty (with_style st l) else with_style st l) ≡ with_style st (when t then with_bare empty l else l)
      go true = refl
      go false = refl
