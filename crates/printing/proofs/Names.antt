-- Names of other crates and libraries that the proofs of this crate cite, by where they are from.
pub use Prim.Native.Nat.{◌+◌, ◌-◌, ◌<◌, ◌≤◌, suc, zero, ℕ}
pub use Rattle.utf8.proofs.Characters.{Read, ascii_at, no_character, read_character}
pub use lib.ListN.{get_or, length}
pub use mathlib.Core.Path.{◌∙◌, ◌≡◌, ap, sym}
pub use native.Mathlib.Omega.{arith}
