-- Names of other crates and libraries that the proofs of this crate cite, by where they are from.
pub use Prim.Native.Nat.{zero, suc, ◌+◌, ◌-◌, ◌≤◌, ℕ}
pub use Rattle.base.proofs.Results.{bind_assoc, bind_end, bind_same}
unfoldable pub use Rattle.base.specs.Choice.{when◌then◌else◌}
pub use Rattle.base.specs.Result.{Result, gives, refused}
unfoldable pub use Rattle.base.specs.Result.{◌>>=◌}
pub use Rattle.document.specs.Document.{check}
pub use Rattle.html_rules.specs.declared.Markdown.{Markdown}
pub use Rattle.markdown_chunks.specs.InnerParts.{chunk_rule, fencing}
pub use Rattle.markdown_marks.specs.InnerParts.{closed, end_of, met_term, start_of}
unfoldable pub use Rattle.markdown_marks.specs.InnerParts.{start_rule}
pub use Rattle.records.specs.Records.{Token, index, size}
unfoldable pub use Rattle.records.specs.Records.{token_at, tokens}
pub use Rattle.records.specs.declared.Block.{Block}
pub use Rattle.records.specs.declared.Style.{Style}
pub use Rattle.renderer.specs.Walk.{anywhere, body, last, page, walk, with_lay, with_out}
unfoldable pub use Rattle.renderer.specs.Walk.{shown, write}
pub use Rattle.room.specs.Room.{extended, seen}
pub use Rattle.skip.specs.Counter.{hides, skip_paragraph}
pub use Rattle.splitter.specs.Answers.{chunk_of, cursor, placed_from, start}
unfoldable pub use Rattle.splitter.specs.Split.{split}
unfoldable pub use Rattle.utf8.specs.Utf8.{bytes}
pub use borrow.Author.Rules.{rules}
pub use lib.ListN.{drop, length, length-drop, length-take}
pub use mathlib.Core.Bool.{Bool, false, true}
pub use mathlib.Core.List.{List, [], ◌++◌, ◌∷◌}
pub use mathlib.Core.Path.{◌∙◌, ◌≡◌, ap, refl, subst, sym}
pub use native.Mathlib.Omega.{arith}
