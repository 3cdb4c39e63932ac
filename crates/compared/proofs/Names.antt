-- Names of other crates and libraries that the proofs of this crate cite, by where they are from.
pub use Prim.Native.Nat.{◌+◌, ◌<◌, ◌≤◌, suc, zero, ℕ}
pub use Rattle.base.proofs.Choice.{and_both, and_left, and_right, le_or_lt}
unfoldable pub use Rattle.compared.specs.InnerCompared.{filled_by, is_answer, is_refusal, is_rendered, same}
pub use borrow.Author.Tests.{eq-eqb, eqb-true}
pub use lib.Dec.{eqb, leb}
pub use lib.ListN.{get_or-append, drop, drop_of_length-le, get_or, length, length-append, set, take}
pub use lib.Seq.{drop-cons, get_or_at, take-suc-set}
pub use mathlib.Core.Bool.{false, true}
pub use mathlib.Core.List.{List, [], ◌∷◌}
pub use mathlib.Core.Logic.{⊎_elim}
pub use mathlib.Core.Path.{◌∙◌, ◌≡◌, ap, ap₂, refl, sym}
pub use native.Mathlib.Numerals.{add-one}
pub use native.Mathlib.Omega.{arith}
