-- The starts and ends of blocks: flags and margins change, and a backtick goes out. Assumes nothing.
use Rattle.console_blocks.proofs.Names.{◌≡◌, refl, ap, ◌∙◌, List, ℕ, ◌+◌, ◌≤◌, arith, gives, ◌>>=◌, outdent, started, ended, text_in, page_of}
use mathlib.Core.Path.{sym}
use mathlib.Core.Bool.{Bool}
use mathlib.Core.Logic.{◌⊎◌, ⊎_elim}
use Rattle.base.specs.Result.{Result, refused}
use Rattle.base.proofs.Choice.{pick}
use Rattle.records.specs.Records.{index}
use Rattle.records.specs.declared.Block.{Block}
use Rattle.records.specs.declared.Block.TheVariants as block
use Rattle.renderer.specs.Walk.{page, with_lay}
use Rattle.skip.specs.Counter.{skip_start}
use Rattle.skip.specs.Answers as counter
use Rattle.skip.proofs.Counter.{new_fits, skip-start_most}
use Rattle.console_rules.specs.Console.{State, with_newline, indent}
use Rattle.console_rules.specs.declared.Lay.{Lay}
use Rattle.console_chunks.specs.InnerShown.{sheet, Fits64}
use Rattle.console_chunks.specs.declared.Page.{Page}
use Rattle.console_chunks.proofs.Pages.{stated}

-- a rule that changes flags and margins, on what stands on a page
module _ (p : Page) {kept kept' : List ℕ} {lay' : Lay} {rule : State → Result State} where
  pub changed : {f : State → State} → ((s : State) → rule s ≡ gives (f s)) → ((o : List ℕ) → f (page kept p.lay o) ≡ page kept' lay' o)
      → sheet (text_in p) kept' lay' ≡ stated (page_of p kept) ((page_of p kept).state >>= rule)
  unfolding ◌>>=◌
  changed e h = ap (stated (page_of p kept)) (same (text_in p).shown)
    where
      same : (s : Result (List ℕ)) → (s >>= λ o. gives (page kept' lay' o)) ≡ (s >>= (λ o. gives (page kept p.lay o)) >>= rule)
      same (gives o) = ap gives (sym (h o)) ∙ sym (e (page kept p.lay o))
      same (refused n k) = refl

-- only a Section4 asks whether a gap lies ahead
module _ (limit tab : ℕ) where
  pub gap_asked : (b : Block) (g h : Bool) (s : State) → (index b ≡ 3 → g ≡ h) → started limit tab b g s ≡ started limit tab b h s
  unfolding started
  gap_asked block.Header g h s e = refl
  gap_asked block.Section2 g h s e = refl
  gap_asked block.Section3 g h s e = refl
  gap_asked block.Section4 g h s e = ap (λ x. started limit tab block.Section4 x s) (e refl)
  gap_asked block.ItemTerm g h s e = refl
  gap_asked block.ItemBody g h s e = refl
  gap_asked block.DefinitionList g h s e = refl
  gap_asked block.Block g h s e = refl
  gap_asked block.InlineBlock g h s e = refl
  gap_asked block.TermRef g h s e = refl
  gap_asked block.Meta g h s e = refl
  gap_asked block.Mono g h s e = refl

  -- the starts that are alike
  module _ {b : Block} (g : Bool) (s : State) where
    pub started_line : (b ≡ block.Header) ⊎ (b ≡ block.Section2) → started limit tab b g s ≡ gives (indent limit 0 (with_lay with_newline s))
    unfolding started
    started_line h = ⊎_elim (λ (e : b ≡ block.Header). rw e) (λ (e : b ≡ block.Section2). rw e) h

    pub started-none : (b ≡ block.DefinitionList) ⊎ ((b ≡ block.Meta) ⊎ (b ≡ block.Mono)) → started limit tab b g s ≡ gives s
    unfolding started
    started-none h =
        ⊎_elim (λ (e : b ≡ block.DefinitionList). rw e)
        (λ (h : (b ≡ block.Meta) ⊎ (b ≡ block.Mono)). ⊎_elim (λ (e : b ≡ block.Meta). rw e) (λ (e : b ≡ block.Mono). rw e) h) h

-- an end that changes no flag, and writes nothing
pub ended-other : (limit : ℕ) (b : Block) → (b ≡ block.Section4 → ⊥) → (b ≡ block.ItemBody → ⊥) → (b ≡ block.Block → ⊥) → (b ≡ block.InlineBlock → ⊥)
    → (b ≡ block.TermRef → ⊥) → (s : State) → ended limit b s ≡ gives (outdent limit s)
unfolding ended
ended-other limit block.Header n₁ n₂ n₃ n₄ n₅ s = refl
ended-other limit block.Section2 n₁ n₂ n₃ n₄ n₅ s = refl
ended-other limit block.Section3 n₁ n₂ n₃ n₄ n₅ s = refl
ended-other limit block.Section4 n₁ n₂ n₃ n₄ n₅ s = absurd (n₁ refl)
ended-other limit block.ItemTerm n₁ n₂ n₃ n₄ n₅ s = refl
ended-other limit block.ItemBody n₁ n₂ n₃ n₄ n₅ s = absurd (n₂ refl)
ended-other limit block.DefinitionList n₁ n₂ n₃ n₄ n₅ s = refl
ended-other limit block.Block n₁ n₂ n₃ n₄ n₅ s = absurd (n₃ refl)
ended-other limit block.InlineBlock n₁ n₂ n₃ n₄ n₅ s = absurd (n₄ refl)
ended-other limit block.TermRef n₁ n₂ n₃ n₄ n₅ s = absurd (n₅ refl)
ended-other limit block.Meta n₁ n₂ n₃ n₄ n₅ s = refl
ended-other limit block.Mono n₁ n₂ n₃ n₄ n₅ s = refl

-- the skip counter, where the code can hold it, and a bound where it cannot
module _ (n k : ℕ) (e : k ≡ counter.new_if_fits n (skip_start block.InlineBlock n)) where
  pub skip_fits : Fits64 (n + 1) → k ≡ skip_start block.InlineBlock n
  skip_fits h = e ∙ new_fits n (skip_start block.InlineBlock n) (omega (arith, skip-start_most block.InlineBlock n))

  pub skip_most : k ≤ n + 1
  unfolding counter.new_if_fits
  skip_most = rw e (pick (λ (x : ℕ). x ≤ n + 1) _ (λ _. skip-start_most block.InlineBlock n) (λ _. omega arith))
