-- Names of other crates and libraries that the proofs of this crate cite, by where they are from.
pub use Prim.Native.Nat.{◌*◌, ◌+◌, ◌-◌, ◌/◌, ◌<◌, ◌≤◌, max, suc, zero, ℕ}
pub use Rattle.base.proofs.Choice.{and_both, and_left, and_right, if_false, if_true, not-passed, pick}
pub use Rattle.base.proofs.Prefix.{starts-length, starts-split}
unfoldable pub use Rattle.base.specs.Bytes.{starts_with}
unfoldable pub use Rattle.base.specs.Choice.{when◌then◌else◌}
pub use Rattle.base.specs.Result.{gives, refused}
unfoldable pub use Rattle.base.specs.Result.{◌>>=◌}
pub use Rattle.buffer.proofs.Pasting.{length-stored}
pub use Rattle.buffer.proofs.Records.{Holds, Holds_kind, Holds-size, number_small, reads_before, reads-text, stored-after, stored-body}
unfoldable pub use Rattle.document.specs.Document.{check, closed, open_blocks, reads, short}
pub use Rattle.notes_rules.specs.Laws.{Apart, Faithful, and-more, last-left, none_left, open_now}
unfoldable pub use Rattle.notes_rules.specs.Laws.{deepest}
pub use Rattle.notes_rules.specs.Notes.{Line, Stretch, Styled, before, grown, header, header_mark, item, item_mark, join, other, part_of, separator}
pub use Rattle.notes_rules.specs.Notes.{starting, stretch, style_of, styled_as}
unfoldable pub use Rattle.notes_rules.specs.Notes.{document, fit, joined, line_of, lines, parts, records, spaces, stretches, styled, taken_in}
unfoldable pub use Rattle.notes_rules.specs.Notes.{text_records, ticked}
unfoldable pub use Rattle.notes_rules.specs.Without.{blank_line, marked, marker_size, ordinary, text_left, without, without_from}
pub use Rattle.records.specs.Records.{index, kind_of, number, size}
unfoldable pub use Rattle.records.specs.Records.{adds, little, order, printing_order, token_at, tokens}
unfoldable pub use Rattle.records.specs.Stored.{around, end, little_bytes, start, stored, text}
pub use Rattle.records.specs.declared.Block.{Block}
pub use Rattle.utf8.proofs.Laws.{adds-low, due_1}
pub use Rattle.utf8.proofs.Text.{Valid, cut, decode-any, follow, follows, follows_rest, row_follows, valid_both}
pub use Rattle.utf8.specs.Utf8.{Range, decode_from, emit, utf8, well_formed, within}
unfoldable pub use Rattle.utf8.specs.Utf8.{bytes, encode, row_of, table}
unfoldable pub use Rattle.white.specs.White.{printing}
pub use borrow.Author.Tests.{eq-eqb, eqb-false, eqb-true, le-ltb, leb-true, ne_eqb, not-false, not-true}
pub use lib.Dec.{eqb, leb, ltb}
pub use lib.ListN.{drop, drop_of_length-le, length, length-append, length-drop}
pub use lib.Seq.{drop_at, drop-drop}
pub use mathlib.Core.Bool.{Bool, beq, ◌&&◌, ◌||◌, false, false≢true, not, true}
pub use mathlib.Core.List.{List, [], ◌++◌, ◌∷◌, append_assoc}
pub use mathlib.Core.Logic.{◌⊎◌, inl, inr, ⊎_elim}
pub use mathlib.Core.Path.{◌∙◌, ◌≡◌, ap, ap₂, refl, subst, subst₂, sym}
pub use native.Mathlib.Nat.{div-add-mod', not-suc-le-zero}
pub use native.Mathlib.Omega.{arith}
