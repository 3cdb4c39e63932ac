-- Names of other crates and libraries that the proofs of this crate cite, by where they are from.
unfoldable pub use Rattle.base.specs.Choice.{when◌then◌else◌ as choose}
pub use Prim.Native.Nat.{◌%◌, ◌*◌, ◌+◌, ◌-◌, ◌/◌, ◌<◌, ◌≤◌, suc, zero, ℕ}
pub use Rattle.base.proofs.Choice.{and_both, if_false, if_true}
unfoldable pub use Rattle.compared.specs.InnerCompared.{same}
unfoldable pub use Rattle.sample_lines.specs.InnerAdding.{repeated}
pub use Rattle.sample_lines.specs.InnerLines.{number_in, two_numbers}
unfoldable pub use Rattle.sample_lines.specs.InnerLines.{hex_digit, number_from, written}
pub use borrow.Author.Tests.{eq-eqb, le-leb, lt-leb, ne_eqb}
pub use lib.Dec.{eqb, leb}
pub use lib.ListN.{drop, get_or, length}
pub use mathlib.Core.Bool.{Bool, ◌&&◌, false, true}
pub use mathlib.Core.List.{List, [], ◌++◌, ◌∷◌, append-nil}
pub use mathlib.Core.Path.{◌∙◌, ◌≡◌, ap, ap₂, refl, sym}
pub use native.Mathlib.Omega.{arith}
