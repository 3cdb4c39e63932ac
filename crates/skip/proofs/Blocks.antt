-- The skip counter after the start or end of a block that is no InlineBlock. Assumes nothing.
use Rattle.skip.proofs.Names.{refl, sym, ◌∙◌, pick, Block, skip_start, skip_end, new_if_fits}
use Prim.Native.Nat.{ℕ}
use mathlib.Core.Path.{◌≡◌}
use Rattle.base.specs.Choice.{when◌then◌else◌}
use Rattle.records.specs.declared.Block.TheVariants as block
use Rattle.records.proofs.Tables.{same_block}
use Rattle.records.specs.Records.{index}
use Rattle.records.specs.contracts.Block.{the_type}
use denote.Enum.Bare.{sameb}
use lib.Dec.{eqb}
use mathlib.Core.Bool.{false}

new_or_old_same : (n : ℕ) → n ≡ new_if_fits n n
unfolding new_if_fits
new_or_old_same n = pick (λ (x : ℕ). n ≡ x) _ (λ _. refl) (λ _. refl)

module _ (b : Block) (n : ℕ) (h : sameb the_type b block.InlineBlock ≡ false) where
  other : eqb (index b) 8 ≡ false
  other = sym (same_block b block.InlineBlock) ∙ h

  pub start-other : n ≡ new_if_fits n (skip_start b n)
  unfolding skip_start when◌then◌else◌
  start-other = rw other (new_or_old_same n)

  pub end-other : n ≡ skip_end b n
  unfolding skip_end when◌then◌else◌
  end-other = rw other
