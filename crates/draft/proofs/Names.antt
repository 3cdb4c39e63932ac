-- Names of other crates and libraries that the proofs of this crate cite, by where they are from.
pub use Prim.Native.Nat.{◌%◌, ◌*◌, ◌+◌, ◌-◌, ◌/◌, ◌<◌, ◌^◌, ◌≤◌, suc, zero, ℕ}
pub use Rattle.base.proofs.Choice.{and_both, if_false, if_true, le_or_lt, pick}
pub use Rattle.base.proofs.Results.{bind_gives, gives_same, refused-gives}
pub use Rattle.base.specs.Result.{Result, gives, measured, refused}
unfoldable pub use Rattle.base.specs.Result.{◌>>=◌}
pub use Rattle.base.specs.Stack.{popped}
unfoldable pub use Rattle.base.specs.Stack.{pushed, top}
pub use Rattle.buffer.proofs.Answering.{SoFar, follows_same, so_far_accepted, so_far-document, so_far-given, so_far-on, so_far_in, stops, writes_in, writes-not}
pub use Rattle.buffer.proofs.Pasting.{length-stored}
pub use Rattle.buffer.specs.Answers.{Follows, Of01, kept}
pub use Rattle.buffer.specs.Builder.{fit, is_text, one_text, so_far}
unfoldable pub use Rattle.buffer.specs.Builder.{add, adds_as, adds_doc, adds_em_doc, closes_block, opens_block, writes, written}
pub use Rattle.buffer.specs.InnerParts.{Accepted, Goes, longer}
pub use Rattle.buffer_doc.proofs.Laws.{Nested, after_write, around_front, around_leaves, fit_gives, made_nested}
pub use Rattle.buffer_doc.specs.InnerParts.{Joins, Ready, made_of}
pub use Rattle.document.proofs.Walks.{Allowed, Sane, accept-gives, check-gives, first_gives, open_after}
pub use Rattle.document.specs.Document.{accept, check, first}
unfoldable pub use Rattle.document.specs.Document.{closes, open_blocks, opens, reads}
pub use Rattle.draft.specs.Draft.{Calls, Does, Holds, Last, Of, Opens, Resumed, Sound, digits, drafted_as, none, stands, style_in}
unfoldable pub use Rattle.draft.specs.Draft.{one_record, open_in, plausible}
pub use Rattle.draft.specs.InnerParts.{Turned, text_at}
pub use Rattle.draft.specs.declared.Draft.{Draft}
pub use Rattle.draft.specs.declared.Packed.{Packed}
pub use Rattle.records.proofs.Reading.{fits_room, read-token}
pub use Rattle.records.proofs.Tables.{index_small, kind_closes, kind_opens, kind_style}
pub use Rattle.records.specs.Records.{Token, index, kind_of, little, number}
unfoldable pub use Rattle.records.specs.Records.{size, token_at}
pub use Rattle.records.specs.Stored.{stored}
unfoldable pub use Rattle.records.specs.Stored.{around, end, start, text}
pub use Rattle.records.specs.declared.Block.{Block}
pub use Rattle.records.specs.declared.Kind.{Kind}
pub use Rattle.records.specs.declared.Style.{Style}
pub use Rattle.refusal.specs.Answers.{answered}
pub use Rattle.refusal.specs.declared.Refusal.{Refusal}
pub use Rattle.std.specs.Prelude.{Result as Answer, Ok, Err, IsErrAnd}
pub use Rattle.utf8.specs.Utf8.{utf8}
pub use borrow.Author.Rules.{rules}
pub use borrow.Author.Tests.{eq-eqb, eqb-false, eqb-true, le-leb, lt-leb, ne_eqb, not-false, not-true}
pub use lib.Dec.{eqb, leb}
pub use lib.ListN.{drop, drop_of_length-le, get_or, length, length-append, length-drop, take, take-append-drop}
pub use lib.Seq.{drop_at, drop-drop, length-take-le, take-add, take_all, take_at}
pub use mathlib.Core.Bool.{Bool, ◌&&◌, false, true}
pub use mathlib.Core.List.{List, [], ◌++◌, ◌∷◌, append_assoc}
pub use mathlib.Core.Logic.{inl, inr, ⊎_elim}
pub use mathlib.Core.Path.{◌∙◌, ◌≡◌, ap, ap₂, refl, subst, sym}
pub use native.Mathlib.Nat.{mod-lt}
pub use native.Mathlib.Omega.{arith}
