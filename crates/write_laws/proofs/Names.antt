-- Names of other crates and libraries that the proofs of this crate cite, by where they are from.
pub use Prim.Native.Nat.{◌%◌, ◌*◌, ◌+◌, ◌-◌, ◌/◌, ◌<◌, ◌≤◌, suc, zero, ℕ}
pub use Rattle.base.proofs.Choice.{and_both, and_left, and_right, eq_or_not, if_false, if_true, le_or_lt, not-passed, pick}
pub use Rattle.base.proofs.Results.{bind_gives, bind_same, gives_same, if_gives, refused-gives}
unfoldable pub use Rattle.base.specs.Choice.{when◌then◌else◌}
pub use Rattle.base.specs.Result.{Result, gives, measured, refused}
unfoldable pub use Rattle.base.specs.Result.{◌>>=◌}
pub use Rattle.buffer.specs.Answers.{Follows, kept}
pub use Rattle.buffer.specs.Builder.{is_text}
unfoldable pub use Rattle.buffer.specs.Builder.{add, adds_as, adds_doc, fit, one_text, so_far, writes, written}
pub use Rattle.buffer_doc.proofs.Titles.{length-text}
pub use Rattle.document.proofs.Walks.{first_gives}
unfoldable pub use Rattle.document.specs.Document.{accept, bodiless, check, closed, closes, first, open_blocks, opens, reads, short}
pub use Rattle.records.proofs.Reading.{fits_room}
unfoldable pub use Rattle.records.specs.Stored.{around, end, little_bytes, start, stored, text}
pub use Rattle.records.specs.declared.Style.{Style}
pub use Rattle.refusal.specs.Answers.{answered}
pub use Rattle.refusal.specs.declared.Refusal.{Refusal}
pub use Rattle.std.specs.Prelude.{Result as Answer, Ok, Err}
pub use Rattle.write_laws.specs.Small.{AllUtf8, AsJoined, Bytes, Calls, EmptyCall, Wrote, more, none, one, some}
unfoldable pub use Rattle.write_laws.specs.Small.{joined_texts, last_text, or_unchanged, room_after_all, writes_all}
pub use borrow.Author.Tests.{eq-eqb, eqb-true, le-leb, le-ltb, leb-true, ne_eqb}
pub use lib.Dec.{eqb, leb}
pub use lib.ListN.{drop, get_or, length, length-append, length-drop, replicate, take, take-append-drop}
pub use lib.Seq.{drop-append-add, drop-drop, length-take-le, take_all, take-append_seam}
pub use mathlib.Core.Bool.{Bool, ◌&&◌, false, false≢true, true}
pub use mathlib.Core.List.{List, [], ◌++◌, ◌∷◌, append_assoc, append-nil}
pub use mathlib.Core.Path.{◌∙◌, ◌≡◌, ap, ap₂, refl, subst, sym}
pub use native.Mathlib.Omega.{arith}
