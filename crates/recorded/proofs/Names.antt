-- Names of other crates and libraries that the proofs of this crate cite, by where they are from.
unfoldable pub use Rattle.base.specs.Choice.{when◌then◌else◌ as choose}
pub use Prim.Native.Nat.{◌<◌, ◌≤◌}
pub use Rattle.recorded.specs.InnerCases.{pattern}
unfoldable pub use Rattle.recorded.specs.InnerCases.{filled}
pub use lib.ListN.{get_or, length, take}
pub use mathlib.Core.Path.{◌∙◌, ◌≡◌, ap, refl, sym}
pub use native.Mathlib.Omega.{arith}
