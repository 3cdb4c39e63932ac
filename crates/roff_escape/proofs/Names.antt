-- Names of other crates and libraries that the proofs of this crate cite, by where they are from.
pub use Prim.Native.Nat.{◌+◌, ◌-◌, ◌<◌, ◌^◌, ◌≤◌, min, suc, zero, ℕ}
pub use Rattle.base.proofs.Choice.{and_both, and_left, and_right, if_false, if_true, le_or_lt, pick}
pub use Rattle.base.proofs.Pasting.{overwritten_fits}
pub use Rattle.base.proofs.Results.{bind_assoc, bind_end, bind_same}
pub use Rattle.base.specs.Bytes.{overwritten, part}
unfoldable pub use Rattle.base.specs.Choice.{when◌then◌else◌}
pub use Rattle.base.specs.Result.{Result, gives, refused}
unfoldable pub use Rattle.base.specs.Result.{◌>>=◌}
unfoldable pub use Rattle.roff_escape.specs.Composer.{control0, font_escape, linebreak, plaintext, text}
pub use Rattle.roff_escape.specs.Escape.{at_newline, spaces, special, special_no_newline, starts_line, unescaped, unescaped_at_newline}
unfoldable pub use Rattle.roff_escape.specs.Escape.{backslash, escape, escape_byte, guard, line_start, preamble, replaced, spaces_byte, special_byte}
pub use Rattle.roff_escape.specs.InnerParts.{Composed, Copies, Laid, as_it_is, composed, escaped, laid, pushed}
pub use Rattle.roff_escape.specs.InnerParts.{roff_of, text_mode, with_escaped, with_line, with_pieces}
unfoldable pub use Rattle.roff_escape.specs.InnerParts.{all_plain, control_name, plain}
pub use Rattle.roff_escape.specs.Monoid.{Piece, piece}
unfoldable pub use Rattle.roff_escape.specs.Monoid.{escape_all, line_after, line_end, line_here}
pub use Rattle.roff_escape.specs.declared.escape.Escape.{Escape}
pub use Rattle.room.proofs.Laws.{extended_in, extended-out, extended_twice, wrote}
pub use Rattle.room.proofs.Lents.{lent_wrote, with_both, with_bytes_twice, with_none, with_same}
pub use Rattle.room.specs.Lent.{Lent, lent, text_of, with_bytes}
pub use Rattle.room.specs.Room.{extended}
pub use Rattle.room.specs.declared.Text.{Text}
unfoldable pub use Rattle.utf8.specs.Utf8.{bytes, encode}
pub use borrow.Author.Rules.{rules}
pub use borrow.Author.Tests.{ne_eqb, not-true}
pub use lib.Dec.{eqb}
pub use lib.ListN.{drop, drop_of_length-le, get_or, length, length-append, length-drop, length-take, take, take-append-drop}
pub use lib.Seq.{drop-cons, drop-drop, get_or-take, length-take-le, take-add, take_all, take-append-add, take-append-le, take-take}
pub use mathlib.Core.Bool.{Bool, ◌&&◌, false, false≢true, not, true}
pub use mathlib.Core.List.{List, [], ◌++◌, ◌∷◌, append_assoc, append-nil}
pub use mathlib.Core.Logic.{⊎_elim}
pub use mathlib.Core.Path.{◌∙◌, ◌≡◌, ap, ap₂, refl, sym}
pub use native.Mathlib.Numerals.{add-one}
pub use native.Mathlib.Omega.{arith}
