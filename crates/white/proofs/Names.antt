-- Names of other crates and libraries that the proofs of this crate cite, by where they are from.
pub use Prim.Native.Nat.{◌+◌, ◌-◌, ◌<◌, ◌^◌, ◌≤◌, suc, zero, ℕ}
pub use Rattle.base.proofs.Choice.{and_both, and_left, and_right, le_or_lt, not-passed}
unfoldable pub use Rattle.base.specs.Choice.{when◌then◌else◌}
pub use Rattle.utf8.proofs.Characters.{Read, no_character, read_character}
pub use Rattle.utf8.specs.Utf8.{continues, decode, encode_all, utf8}
unfoldable pub use Rattle.utf8.specs.Utf8.{bytes, encode, row_of, table}
pub use Rattle.white.specs.InnerParts.{last, same}
unfoldable pub use Rattle.white.specs.InnerParts.{white_bytes, white_size}
pub use Rattle.white.specs.White.{all_white, any, unblank}
unfoldable pub use Rattle.white.specs.White.{blank, printing, printing_count, trim, white, whites}
pub use borrow.Author.Tests.{eq-eqb, eqb-true, le-ltb, leb-true, lt-leb, ne_eqb}
pub use lib.Dec.{eqb, leb, ltb}
pub use lib.ListN.{drop, drop_of_length-le, get_or, length, length-append, take, take-append-drop}
pub use lib.Seq.{drop_at, drop-cons, drop-length, length-take-le, take-add, take-append_seam, take-take}
pub use mathlib.Core.Bool.{Bool, ◌&&◌, ◌||◌, and_assoc, and-false, and-true, false, false≢true, or-true, true, true≢false}
pub use mathlib.Core.List.{List, [], ◌++◌, ◌∷◌, append_assoc, append-nil}
pub use mathlib.Core.Logic.{◌⊎◌, inl, inr, ⊎_elim}
pub use mathlib.Core.Path.{◌∙◌, ◌≡◌, ap, refl, sym}
pub use native.Mathlib.Omega.{arith}
