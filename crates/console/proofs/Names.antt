-- Names of other crates and libraries that the proofs of this crate cite, by where they are from.
pub use Prim.Native.Nat.{◌+◌, ◌-◌, ◌<◌, ℕ, ◌≤◌}
pub use Rattle.base.proofs.Results.{bind_end, bind_same}
pub use Rattle.base.specs.Result.{Result, gives, refused}
unfoldable pub use Rattle.base.specs.Result.{◌>>=◌}
pub use Rattle.console.specs.Answers.{Stands}
pub use Rattle.console.specs.InnerWritten.{Written}
pub use Rattle.console_chunks.specs.InnerShown.{Sheet, after, page_of, ruled, text_in}
pub use Rattle.console_chunks.specs.declared.Page.{Page}
pub use Rattle.console_rules.specs.Console.{State, body_chunk, measure_of, text_by}
unfoldable pub use Rattle.console_rules.specs.Console.{console}
pub use Rattle.console_rules.specs.declared.Settings.{Settings}
pub use Rattle.console_tabstop.specs.InnerAhead.{Known}
pub use Rattle.document.specs.Document.{check}
pub use Rattle.records.specs.Answers.{Read}
pub use Rattle.records.specs.Records.{tokens}
pub use Rattle.refusal.specs.Numbers.{refusal_number, refusal_place}
pub use Rattle.refusal.specs.declared.Refusal.{Refusal}
pub use Rattle.renderer.proofs.Leads.{Leads, leads-on, leads-refused}
pub use Rattle.renderer.specs.Walk.{body}
pub use Rattle.room.specs.Lent.{Lent}
pub use Rattle.splitter.proofs.Answers.{Took}
pub use Rattle.splitter.specs.Answers.{chunk_of, cursor, placed_of}
pub use Rattle.splitter.specs.Split.{split}
pub use Rattle.splitter.specs.declared.Piece.{Piece}
pub use Rattle.std.proofs.lemmas.Result.{err_from_is_err_and}
pub use Rattle.std.specs.Prelude.{Err, IsErrAnd, Ok}
pub use borrow.Author.Tests.{le-ltb, lt-ltb}
pub use lib.ListN.{length}
pub use mathlib.Core.Bool.{Bool, true}
pub use mathlib.Core.List.{List, []}
pub use mathlib.Core.Path.{ap, refl, sym, ◌∙◌, ◌≡◌}
pub use native.Mathlib.Omega.{arith}
