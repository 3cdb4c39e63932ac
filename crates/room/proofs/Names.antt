-- Names of other crates and libraries that the proofs of this crate cite, by where they are from.
pub use Prim.Native.Nat.{◌+◌, ◌-◌, ◌<◌, ◌≤◌, ℕ}
pub use lib.ListN.{drop, length, length-append, length-drop, length-replicate, length-set, replicate, set, take}
pub use lib.Seq.{length-take-le, take-suc-set}
pub use mathlib.Core.List.{[], ◌++◌, ◌∷◌, append-nil}
pub use mathlib.Core.Logic.{⊎_elim}
pub use mathlib.Core.Path.{◌∙◌, ◌≡◌, refl, sym}
pub use native.Mathlib.Numerals.{add-one}
pub use native.Mathlib.Omega.{arith}
