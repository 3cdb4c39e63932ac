-- Names of other crates and libraries that the proofs of this crate cite, by where they are from.
pub use Prim.Native.Nat.{◌+◌, ◌-◌, ◌≤◌, ℕ}
pub use Rattle.room.proofs.Laws.{extended_in, length-padded}
pub use borrow.Author.Rules.{rules}
pub use lib.ListN.{length, take}
pub use lib.Seq.{length-take-le, take_at}
pub use mathlib.Core.Path.{◌∙◌, ◌≡◌, ap, ap₂, refl, sym}
pub use native.Mathlib.Omega.{arith}
