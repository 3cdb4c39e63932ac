-- Names of other crates and libraries that the proofs of this crate cite, by where they are from.
pub use Prim.Native.Nat.{◌%◌, ◌+◌, ◌-◌, ◌/◌, ◌<◌, ◌^◌, ◌≤◌, ℕ}
pub use Rattle.base.proofs.Choice.{and_both, and_left, and_right, if_false, if_true, le_or_lt, pick}
pub use Rattle.base.proofs.Parts.{part_none}
pub use Rattle.base.proofs.Results.{bind_assoc, bind_gives, bind_same}
pub use Rattle.base.specs.Bytes.{part}
unfoldable pub use Rattle.base.specs.Choice.{when◌then◌else◌}
pub use Rattle.base.specs.Result.{Result, gives, refused}
unfoldable pub use Rattle.base.specs.Result.{◌>>=◌}
pub use Rattle.document.proofs.Walks.{Sane, Sanes, also, check-gives, done, open_sane, verdict_gives, verdict_refused}
pub use Rattle.document.specs.Document.{check}
pub use Rattle.manpage.specs.InnerParts.{Alike, CasedTo, Follows, ends_heading, is_heading, is_silent, is_term_ref, locals, record_text, silent}
unfoldable pub use Rattle.manpage.specs.InnerParts.{argument_pieces, behind, closed, closing, heading_text, opened, opening, shut, texts_valid}
pub use Rattle.manpage.specs.Roff.{Locals, Outcome, State, font_of, initial, roff_on, state}
unfoldable pub use Rattle.manpage.specs.Roff.{captures, ended, heading, roff, started, subsection, token, turn}
pub use Rattle.records.specs.Answers.{Read, bare, token_of}
pub use Rattle.records.specs.Records.{Token, index, tokens, tokens_from}
unfoldable pub use Rattle.records.specs.Records.{blocks, kind_of}
pub use Rattle.records.specs.declared.Head.{Head}
pub use Rattle.records.specs.declared.Block.{Block}
pub use Rattle.records.specs.declared.Kind.{Kind}
pub use Rattle.records.specs.declared.Style.{Style}
unfoldable pub use Rattle.renderer.specs.Walk.{empty, walk}
pub use Rattle.roff_escape.proofs.Buffer.{all_append, pushes-writes, writes-pushes}
pub use Rattle.roff_escape.proofs.Composing.{payload_same, piece-put, pushed_none, pushed-same, pushed_then}
pub use Rattle.roff_escape.proofs.Escaping.{escape-append}
unfoldable pub use Rattle.roff_escape.specs.Composer.{argument, control, control0, font_escape, linebreak, plaintext, text}
unfoldable pub use Rattle.roff_escape.specs.Escape.{escape, line_start, preamble}
pub use Rattle.roff_escape.specs.InnerParts.{Composed, pushed, roff_of, stripped, with_escaped}
pub use Rattle.roff_escape.specs.Monoid.{Piece, Written, breaks, line_here, piece}
unfoldable pub use Rattle.roff_escape.specs.Monoid.{begun, escape_all, line_after, line_end, pushes, rendered, writes}
pub use Rattle.roff_escape.specs.declared.roff.Font.{Font}
pub use Rattle.roff_escape.specs.declared.roff.Roff.{Roff}
pub use Rattle.records.specs.Listed.{left}
pub use Rattle.room.proofs.Laws.{seen_in, seen-out}
pub use Rattle.room.specs.Room.{seen}
unfoldable pub use Rattle.room.specs.Room.{extended}
pub use Rattle.upper.proofs.Text.{upper_ascii, upper_both, upper-empty, upper-none, upper_valid}
pub use Rattle.upper.specs.Upper.{upper}
pub use Rattle.utf8.proofs.Text.{Valid, valid_both}
pub use Rattle.utf8.specs.Utf8.{scalar, utf8}
unfoldable pub use Rattle.utf8.specs.Utf8.{bytes, encode, row_of, table}
pub use borrow.Author.Rules.{rules}
pub use borrow.Author.Tests.{eqb-true, le-leb, leb-true, ne_eqb}
pub use lib.Dec.{eqb, leb}
pub use lib.ListN.{drop, drop_of_length-le, get_or, length, take}
pub use lib.Seq.{length-take-le}
pub use mathlib.Core.Bool.{Bool, ◌&&◌, ◌||◌, false, false≢true, not, true}
pub use mathlib.Core.List.{List, [], ◌++◌, ◌∷◌, append_assoc, append-nil}
pub use mathlib.Core.Logic.{⊎_elim}
pub use mathlib.Core.Path.{◌∙◌, ◌≡◌, ap, ap₂, refl, subst, sym}
pub use native.Mathlib.Omega.{arith}
