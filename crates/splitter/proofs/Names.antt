-- Names of other crates and libraries that the proofs of this crate cite, by where they are from.
pub use Prim.Native.Nat.{◌+◌, ◌-◌, ◌<◌, ◌≤◌, suc, zero, ℕ}
pub use Rattle.base.proofs.Choice.{and_both, and_fails, and_left, and_right, le_or_lt, pick}
pub use Rattle.base.proofs.Parts.{drop_less, part_over}
pub use Rattle.base.proofs.Prefix.{starts-length, starts-split}
unfoldable pub use Rattle.base.specs.Bytes.{starts_with}
unfoldable pub use Rattle.base.specs.Choice.{when◌then◌else◌}
pub use Rattle.splitter.specs.InnerParts.{Follows, word_from}
pub use Rattle.splitter.specs.Split.{Chunk, Placed, Step, four, is_line_end, is_line_end_or_space, line, line_break, paragraph, raw, ticks, word}
unfoldable pub use Rattle.splitter.specs.Split.{after_line_end, before, chunks, chunks_of, is_space, placed, split, step, stripped, ticked}
pub use Rattle.splitter.specs.declared.Code.{Code}
pub use Rattle.splitter.specs.declared.Cursor.{Cursor}
pub use Rattle.splitter.specs.declared.Piece.{Piece}
pub use Rattle.splitter.specs.declared.Piece.TheVariants.{LineBreak, Paragraph, Raw, Space}
pub use Rattle.utf8.specs.Utf8.{characters, continues}
pub use borrow.Author.Tests.{eq-eqb, eqb-true, le-leb, lt-leb, ne_eqb}
pub use lib.Dec.{eqb}
pub use lib.ListN.{drop, drop_of_length-le, get_or, length, length-drop, take, take-append-drop}
pub use lib.Seq.{drop-cons, drop-drop, take-add, take-append_seam}
pub use mathlib.Core.Bool.{Bool, ◌&&◌, ◌||◌, and-false, and-true, false, false≢true, true}
pub use mathlib.Core.List.{List, [], ◌++◌, ◌∷◌, append_assoc, append-nil, map}
pub use mathlib.Core.Logic.{⊎_elim}
pub use mathlib.Core.Path.{◌∙◌, ◌≡◌, ap, ap₂, refl, subst, sym}
pub use native.Mathlib.Nat.{le_refl}
pub use native.Mathlib.Omega.{arith}
pub use Rattle.std.specs.Prelude.{None, Option, Some}
