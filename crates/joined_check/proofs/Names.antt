-- Names of other crates and libraries that the proofs of this crate cite, by where they are from.
pub use Prim.Native.Nat.{◌+◌, ◌-◌, ◌<◌, ◌≤◌, ℕ}
pub use Rattle.document.specs.Document.{closes, opens}
pub use Rattle.utf8.specs.Utf8.{utf8}
pub use lib.ListN.{length, take}
pub use mathlib.Core.Path.{◌∙◌, ◌≡◌, ap, refl, sym}
pub use native.Mathlib.Omega.{arith}
