-- Names of other crates and libraries that the proofs of this crate cite, by where they are from.
pub use Prim.Native.Nat.{◌%◌, ◌+◌, ◌-◌, ◌/◌, ◌<◌, ◌≤◌, suc, zero, ℕ}
pub use Rattle.base.proofs.Choice.{and_both, and_left, and_right, eq_or_not, if_false, if_true, le_or_lt, pick}
pub use Rattle.base.specs.Choice.{among}
unfoldable pub use Rattle.base.specs.Choice.{when◌then◌else◌}
pub use Rattle.upper.specs.InnerParts.{UppercasedAt, Wrote, characters_of}
pub use Rattle.upper.specs.Table.{Entry, ◌becomes◌}
unfoldable pub use Rattle.upper.specs.Table.{table}
pub use Rattle.upper.specs.Upper.{ascending, entry_of, from, in_order, map_all, proper, scalars, to, under}
unfoldable pub use Rattle.upper.specs.Upper.{ascii_upper, maps_to, upper}
pub use Rattle.utf8.proofs.Characters.{ascii_at, character_encoded, no_character, read_character}
pub use Rattle.utf8.specs.Utf8.{character_at, decode, encode_all, utf8}
unfoldable pub use Rattle.utf8.specs.Utf8.{bytes, encode, row_of, scalar}
pub use Rattle.std.specs.Prelude.{Some, None}
pub use borrow.Author.Rules.{rules}
pub use borrow.Author.Tests.{eq-eqb, eqb-true, le-leb, le-ltb, leb-true, lt-leb, lt-ltb, ltb-false, ltb-true, ne_eqb}
pub use lib.Dec.{eqb, leb, ltb}
pub use lib.ListN.{get_or-map, drop, get_or, length, length-append, length-drop, length-map, length-set, set, take}
pub use lib.Seq.{length-take-le, sets-eq, take-append-add, take-append-le}
pub use mathlib.Core.Bool.{Bool, ◌&&◌, and-false, false, false≢true, true}
pub use mathlib.Core.List.{List, [], ◌++◌, ◌∷◌, append_assoc, map}
pub use mathlib.Core.Logic.{◌⊎◌, inl, inr, ⊎_elim}
pub use mathlib.Core.Path.{◌∙◌, ◌≡◌, ap, ap₂, refl, subst, sym}
pub use native.Mathlib.Nat.{eq-or-lt_of_le, le_of_suc-le-suc, not-suc-le-zero}
pub use native.Mathlib.Omega.{arith}
