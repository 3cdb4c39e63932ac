-- Strict HTML writes other bytes than HTML at an `&`, and only there. Assumes nothing.
use Prim.Native.Nat.{ℕ}
use mathlib.Core.Bool.{true, false}
use mathlib.Core.List.{[], ◌∷◌}
use mathlib.Core.Path.{◌≡◌}
use borrow.Author.Tests.{ne_eqb}
use Rattle.utf8.specs.Utf8.{bytes, encode}
use Rattle.base.specs.Choice.{when◌then◌else◌}
use Rattle.html_rules.specs.Html.{entity}

module _ (b : ℕ) where
  pub strict_amp : b ≡ 0x26 → 0x26 ∷ 0x61 ∷ 0x6D ∷ 0x70 ∷ 0x3B ∷ [] ≡ entity true b
  unfolding entity bytes encode when◌then◌else◌
  strict_amp e = rw e

  pub strict_other : (b ≡ 0x26 → ⊥) → entity false b ≡ entity true b
  unfolding entity
  strict_other n = rw (ne_eqb b 0x26 n)
