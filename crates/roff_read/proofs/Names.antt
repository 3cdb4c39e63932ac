-- Names of other crates and libraries that the proofs of this crate cite, by where they are from.
pub use Prim.Native.Nat.{◌%◌, ◌+◌, ◌/◌, ◌≤◌, ℕ}
pub use Rattle.base.proofs.Choice.{and_both, and_left, and_right, eq_or_not, if_false, if_true, not-passed, pick}
pub use Rattle.base.proofs.Results.{All, bind_assoc, bind_gives, bind_same, given, if_gives, is-given, refusal}
unfoldable pub use Rattle.base.specs.Choice.{when◌then◌else◌}
pub use Rattle.base.specs.Result.{Result, gives, refused}
unfoldable pub use Rattle.base.specs.Result.{◌>>=◌}
pub use Rattle.manpage.proofs.Whole.{roff-given, roff_law}
pub use Rattle.manpage.specs.Pieces.{pieces, pushed_by}
unfoldable pub use Rattle.manpage.specs.Pieces.{collected, passed}
pub use Rattle.manpage.specs.Roff.{Locals, Outcome, font_of, initial, roff_on}
unfoldable pub use Rattle.manpage.specs.Roff.{captures, ended, heading, roff, started, subsection, token, turn}
pub use Rattle.reader.proofs.Laws.{both, tells_append}
pub use Rattle.records.specs.Records.{Token}
pub use Rattle.records.specs.declared.Block.{Block}
pub use Rattle.records.specs.declared.Kind.{Kind}
pub use Rattle.records.specs.declared.Style.{Style}
pub use Rattle.roff_escape.proofs.Buffer.{after-append, all_append, rendered_prefix}
unfoldable pub use Rattle.roff_escape.specs.Composer.{argument, control, control0, font_escape, linebreak, plaintext, text}
unfoldable pub use Rattle.roff_escape.specs.Escape.{backslash, escape, escape_byte, guard, line_start, preamble, replaced, spaces_byte, special_byte}
pub use Rattle.roff_escape.specs.Monoid.{Piece, piece}
unfoldable pub use Rattle.roff_escape.specs.Monoid.{escape_all, line_after, line_end, line_here, rendered}
pub use Rattle.roff_read.specs.Claims.{Bodies, Gives, Pages, Places, Stands, Texts, text_record}
pub use Rattle.roff_read.specs.Read.{At, between, between_slash, body_back, in_text, read_back, spaced}
unfoldable pub use Rattle.roff_read.specs.Read.{as_space, controls, next, says, sets}
pub use Rattle.roff_read.specs.Record.{lead, mode_of}
unfoldable pub use Rattle.roff_read.specs.Record.{spaced_if, written}
unfoldable pub use Rattle.room.specs.Room.{extended}
unfoldable pub use Rattle.upper.specs.Upper.{maps_to, upper}
unfoldable pub use Rattle.utf8.specs.Utf8.{bytes, encode}
pub use borrow.Author.Tests.{leb-true, ne_eqb}
pub use lib.Dec.{eqb, leb, ltb}
pub use lib.ListN.{get_or, length, length-append}
pub use mathlib.Core.Bool.{Bool, ◌&&◌, ◌||◌, false, false≢true, not, true}
pub use mathlib.Core.List.{List, [], ◌++◌, ◌∷◌, append_assoc, append_cancel_left, append-nil, map}
pub use mathlib.Core.Logic.{◌⊎◌, inl, inr, ⊎_elim}
pub use mathlib.Core.Path.{◌∙◌, ◌≡◌, ap, ap₂, refl, subst, sym}
pub use native.Mathlib.Omega.{arith}
