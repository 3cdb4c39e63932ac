-- Names of other crates and libraries that the proofs of this crate cite, by where they are from.
pub use Prim.Native.Nat.{◌*◌, ◌+◌, ◌-◌, ◌/◌, ◌<◌, ◌≤◌, suc, zero, ℕ}
pub use Rattle.base.proofs.Choice.{and_both, and_left, and_right, eq_or_not, if_false, if_true, le_or_lt}
pub use Rattle.base.proofs.Results.{bind_gives, gives_same, if_gives, refused-gives}
pub use Rattle.base.specs.Choice.{among}
unfoldable pub use Rattle.base.specs.Choice.{when◌then◌else◌}
unfoldable pub use Rattle.pages.specs.InnerParts.{bytes_of}
unfoldable pub use Rattle.pages.specs.Order.{in_order, pages_from, printed}
pub use Rattle.pages.specs.Pages.{shown}
unfoldable pub use Rattle.pages.specs.Pages.{allowed, joined, leads, page_count, page_of, page_start, pages_in, rows, rows_before}
unfoldable pub use Rattle.pages.specs.RowList.{feed, feeds}
pub use borrow.Author.Tests.{eq-eqb, le-leb, leb-true, lt-leb, ne_eqb}
pub use lib.Dec.{eqb, leb}
pub use lib.ListN.{drop, drop_of_length-le, get_or, length, length-append, length-drop, length-take, take, take-append-drop}
pub use lib.Seq.{drop-drop, length-take-le}
pub use mathlib.Core.Bool.{Bool, false, true}
pub use mathlib.Core.List.{List, [], ◌++◌, ◌∷◌, append_assoc, append-nil, map}
pub use mathlib.Core.Logic.{◌⊎◌, ⊎_elim}
pub use mathlib.Core.Path.{◌∙◌, ◌≡◌, ap, ap₂, refl, subst, sym}
pub use native.Mathlib.Nat.{add-div_right, div-eq_of_lt, div-lt_iff_lt-mul, div-mul-le_self, le-div_iff_mul-le, lt-div-mul-add, mul_comm}
pub use native.Mathlib.Nat.{mul-le-mul_left, mul-suc, mul-zero, sub-zero}
pub use native.Mathlib.Omega.{arith}
