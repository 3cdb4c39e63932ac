-- Names of other crates and libraries that the proofs of this crate cite, by where they are from.
pub use Prim.Native.Nat.{◌%◌, ◌*◌, ◌+◌, ◌-◌, ◌/◌, ◌<◌, ◌≤◌, suc, suc-le-suc, zero, ℕ}
pub use Rattle.base.proofs.Choice.{and_both, and_left, and_right, eq_or_not, if_false, if_true, le_or_lt, not-passed, pick, same_test}
unfoldable pub use Rattle.base.specs.Choice.{when◌then◌else◌}
unfoldable pub use Rattle.utf8.specs.InnerNeighbours.{high, low}
pub use Rattle.utf8.specs.InnerParts.{Ascii, AsciiPart, Tested, Plain, Classes, Lanes, beside_at, sound_at}
pub use Rattle.utf8.specs.Utf8.{Range, Row, ◌to◌, begins, characters, continues, decode, decode_from, emit, encode_all, find, first_of, never, utf8}
pub use Rattle.utf8.specs.Utf8.{well_formed, within}
unfoldable pub use Rattle.utf8.specs.Utf8.{bytes, character_at, encode, row_of, scalar, size_of, table}
pub use Rattle.std.specs.Prelude.{Option, Some, None}
pub use borrow.Author.Tests.{eqb-false, eqb-true, le-leb, le-ltb, leb-false, leb-true, lt-leb, lt-ltb, ltb-true, ne_eqb}
pub use lib.Dec.{eqb, leb, leb-zero, ltb}
pub use lib.ListN.{drop, drop_of_length-le, get_or, length, length-drop, take, take-append-drop}
pub use lib.Seq.{drop-cons, drop-drop, drop-length, get_or-drop, get_or-take, length-take-le}
pub use mathlib.Core.Bool.{Bool, beq, ◌&&◌, ◌||◌, and_assoc, and-false, and-true, false, false≢true, not, or-true, true}
pub use mathlib.Core.List.{List, [], ◌++◌, ◌∷◌, append-nil}
pub use mathlib.Core.Logic.{◌⊎◌, inl, inr, ⊎_elim}
pub use mathlib.Core.Path.{◌∙◌, ◌≡◌, ap, ap₂, refl, subst, subst₂, sym}
pub use native.Mathlib.Nat.{add-zero, not-suc-le-zero}
pub use native.Mathlib.Numerals.{add-one}
pub use native.Mathlib.Omega.{arith}
