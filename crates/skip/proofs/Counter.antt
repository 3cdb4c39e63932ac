-- The skip counter. Assumes nothing.
use Rattle.skip.proofs.Names.{refl, sym, arith, lt-ltb, le-ltb, pick, if_true, if_false, Block, skip_start, skip_end, new_if_fits}
use Rattle.base.proofs.Choice.{le_or_lt}
use mathlib.Core.Logic.{⊎_elim}
use mathlib.Core.Path.{◌∙◌}
use Prim.Native.Nat.{ℕ, min, ◌+◌, ◌-◌, ◌≤◌, ◌<◌, ◌^◌}
use mathlib.Core.Path.{◌≡◌}
use Rattle.records.specs.declared.Block.TheVariants as block

-- a number that fits is held
pub new_fits : (old new : ℕ) → new < 2 ^ 64 → new_if_fits old new ≡ new
unfolding new_if_fits
new_fits old new h = if_true _ _ (lt-ltb new (2 ^ 64) h)

pub old_stays : (old new : ℕ) → 2 ^ 64 ≤ new → new_if_fits old new ≡ old
unfolding new_if_fits
old_stays old new h = if_false _ _ (le-ltb new (2 ^ 64) h)

-- one is added at most, and none taken but by an end
pub skip-start_most : (b : Block) (n : ℕ) → skip_start b n ≤ n + 1
unfolding skip_start
skip-start_most b n = pick (λ (x : ℕ). x ≤ n + 1) _ (λ _. omega arith) (λ _. omega arith)

pub skip-end_most : (b : Block) (n : ℕ) → skip_end b n ≤ n
unfolding skip_end
skip-end_most b n = pick (λ (x : ℕ). x ≤ n) _ (λ _. omega arith) (λ _. omega arith)

-- the start of an InlineBlock
pub push_over : (n : ℕ) → 0 < n → skip_start block.InlineBlock n ≡ n + 1
unfolding skip_start
push_over n h = if_true _ _ (lt-ltb 0 n h)

pub push-none : (n : ℕ) → n ≤ 0 → skip_start block.InlineBlock n ≡ n
unfolding skip_start
push-none n h = if_false _ _ (le-ltb 0 n h)

-- its end
pub pop_one : (n : ℕ) → skip_end block.InlineBlock n ≡ n - 1
unfolding skip_end
pop_one n = if_true _ _ refl

-- and as the code holds them
module _ (n : ℕ) where
  pub pushes : 0 < n → n < 2 ^ 64 → min (n + 1) 0xFFFF_FFFF_FFFF_FFFF ≡ new_if_fits n (skip_start block.InlineBlock n)
  pushes h k =
      ⊎_elim
      (λ (l : n + 1 ≤ 0xFFFF_FFFF_FFFF_FFFF).
      let m : min (n + 1) 0xFFFF_FFFF_FFFF_FFFF ≡ n + 1 = omega arith in
      m ∙ sym (rw (push_over n h) (new_fits n (n + 1) (omega arith))))
      (λ (l : 0xFFFF_FFFF_FFFF_FFFF < n + 1).
      let m : min (n + 1) 0xFFFF_FFFF_FFFF_FFFF ≡ n = omega arith in
      m ∙ sym (rw (push_over n h) (old_stays n (n + 1) (omega arith))))
      (le_or_lt (n + 1) 0xFFFF_FFFF_FFFF_FFFF)

  pub pushes-none : n ≤ 0 → n ≡ new_if_fits n (skip_start block.InlineBlock n)
  pushes-none h = sym (rw (push-none n h) (new_fits n n (omega arith)))
