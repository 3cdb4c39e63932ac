-- Names of other crates and libraries that the proofs of this crate cite, by where they are from.
pub use Prim.Native.Nat.{◌+◌, ◌-◌, ◌<◌, ◌≤◌, suc, zero, ℕ}
pub use Rattle.base.proofs.Choice.{and_both, if_false, if_true}
pub use Rattle.base.proofs.Stack.{length-popped, length-pushed}
pub use Rattle.base.specs.Bytes.{overwritten, part, pasted}
unfoldable pub use Rattle.base.specs.Choice.{when◌then◌else◌}
pub use Rattle.base.specs.Result.{Result, gives, measured, refused}
unfoldable pub use Rattle.base.specs.Result.{◌>>=◌}
unfoldable pub use Rattle.base.specs.Stack.{popped, pushed, top}
pub use Rattle.buffer.proofs.Answering.{room_there}
pub use Rattle.buffer.proofs.Pasting.{length-head, length-pasted, length-stored, pasted-next, set_fits}
pub use Rattle.buffer.proofs.Written.{text-after, text_sane, written_pass}
pub use Rattle.buffer.specs.Builder.{is_text, so_far}
unfoldable pub use Rattle.buffer.specs.Builder.{add, adds_as, adds_doc, adds_em_doc, emphasised, fit}
pub use Rattle.buffer_doc.specs.InnerParts.{Adds, Joins, Lines, Nests, Ready, count_after, made_of}
unfoldable pub use Rattle.buffer_doc.specs.InnerParts.{section, titled}
pub use Rattle.document.proofs.Refusals.{reads-some}
pub use Rattle.document.proofs.Walks.{AcceptedAt, Allowed, Sane, accept-gives, accepted_at_0, check-gives, first_gives, open_allowed, open_done, open_fits}
pub use Rattle.document.proofs.Walks.{open_next, open_sane_here, open_whole, open_after}
pub use Rattle.document.specs.Document.{check}
unfoldable pub use Rattle.document.specs.Document.{accept, bodiless, closes, first, open_blocks, opens, reads}
pub use Rattle.records.proofs.Reading.{read-token}
pub use Rattle.records.specs.Answers.{Read}
pub use Rattle.records.specs.Records.{Token, index, size}
unfoldable pub use Rattle.records.specs.Records.{token_at}
unfoldable pub use Rattle.records.specs.Stored.{around, end, head, start, stored, text}
pub use Rattle.records.specs.declared.Block.{Block}
pub use Rattle.records.specs.declared.Head.{Head}
pub use Rattle.records.specs.declared.Kind.{Kind}
pub use Rattle.splitter.specs.Split.{is_line_end, line}
pub use Rattle.utf8.specs.Utf8.{utf8}
pub use borrow.Author.Rules.{rules}
pub use borrow.Author.Tests.{eq-eqb, eqb-true, le-leb, le-ltb, lt-leb, lt-ltb, ne_eqb, not-false, not-true}
pub use lib.Dec.{leb}
pub use lib.ListN.{drop, drop_of_length-le, get_or, length, length-append, length-drop, length-replicate, replicate, take, take-append-drop}
pub use lib.Seq.{drop-drop, get_or-append-add, length-take-le, take-append-add, take-take}
pub use mathlib.Core.Bool.{Bool, ◌&&◌, false, false≢true, true}
pub use mathlib.Core.List.{List, [], ◌++◌, ◌∷◌, append_assoc, append-nil}
pub use mathlib.Core.Path.{◌∙◌, ◌≡◌, ap, ap₂, refl, subst, sym}
pub use native.Mathlib.Omega.{arith}
