-- Names of other crates and libraries that the proofs of this crate cite, by where they are from.
pub use Prim.Native.Nat.{◌*◌, ◌+◌, ◌-◌, ◌/◌, ◌%◌, ◌<◌, ◌≤◌, suc, zero, ℕ}
unfoldable pub use Rattle.base.specs.Bytes.{starts_with}
unfoldable pub use Rattle.base.specs.Choice.{when◌then◌else◌}
pub use borrow.Author.Tests.{eq-eqb, ne_eqb, eqb-false, eqb-true, le-leb, leb-false, leb-true, lt-leb}
pub use lib.Dec.{eqb, leb}
pub use lib.ListN.{drop, drop_of_length-le, get_or, length, length-append, length-drop, set, take}
pub use lib.Seq.{drop-drop, drop-length, drop-nil, get_or-take, length-take-le, paste, paste-suc, take-length, drop-cons, take_all, take-append_seam, take-nil}
pub use lib.Seq.{take-suc-set, take-take}
pub use mathlib.Core.Bool.{Bool, beq, ◌&&◌, false, false≢true, true}
pub use mathlib.Core.List.{List, [], ◌++◌, ◌∷◌, append-nil}
pub use mathlib.Core.Logic.{◌⊎◌, inl, inr, ⊎_elim}
pub use mathlib.Core.Path.{◌∙◌, ◌≡◌, ap, refl, sym}
pub use native.Mathlib.Nat.{eq-or-lt_of_le, le_of_suc-le-suc, not-suc-le-zero, sub-zero, suc-sub-suc}
pub use native.Mathlib.Numerals.{add-one, sub-one}
pub use native.Mathlib.Omega.{arith}
