-- Names of other crates and libraries that the proofs of this crate cite, by where they are from.
pub use Prim.Native.Nat.{◌+◌, ◌-◌, ◌<◌, ◌≤◌, min, suc, zero, ℕ}
pub use Rattle.base.proofs.Choice.{if_false, if_true, le_or_lt, pick}
unfoldable pub use Rattle.base.specs.Choice.{when◌then◌else◌}
pub use Rattle.runs.specs.InnerRuns.{Reached}
unfoldable pub use Rattle.runs.specs.InnerRuns.{among}
pub use borrow.Author.Rules.{rules}
pub use borrow.Author.Tests.{le-leb, lt-leb}
pub use lib.ListN.{drop, get_or, length, length-append, length-drop, take, take-append-drop}
pub use lib.Seq.{drop-drop, length-take-le}
pub use mathlib.Core.Bool.{Bool, ◌||◌, false, false≢true, true}
pub use mathlib.Core.List.{List, [], ◌++◌, ◌∷◌}
pub use mathlib.Core.Logic.{◌⊎◌, inl, inr, ⊎_elim}
pub use mathlib.Core.Path.{◌∙◌, ◌≡◌, ap, refl, sym}
pub use native.Mathlib.Omega.{arith}
