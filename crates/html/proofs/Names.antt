-- Names of other crates and libraries that the proofs of this crate cite, by where they are from.
pub use Prim.Native.Nat.{◌+◌, ◌-◌, ◌≤◌, ℕ}
pub use Rattle.base.proofs.Choice.{if_false, if_true}
pub use Rattle.base.proofs.Results.{bind_assoc, bind_end, bind_same}
unfoldable pub use Rattle.base.specs.Choice.{when◌then◌else◌, when◌then◌else◌ as choose}
pub use Rattle.base.specs.Result.{Result, gives, refused}
unfoldable pub use Rattle.base.specs.Result.{◌>>=◌}
pub use Rattle.base.specs.Stack.{popped, pushed}
pub use Rattle.document.specs.Document.{check}
pub use Rattle.html_rules.specs.Html.{State, br, closing, end_tag, escaped, in_list, initial, opening, plain, start_tag, with_skip, with_style}
unfoldable pub use Rattle.html_rules.specs.Html.{blank_line, change, chunk, css, enter, finish, html, leave, tagged, turn}
pub use Rattle.html_rules.specs.declared.Html.{Html}
unfoldable pub use Rattle.html_tags.specs.InnerParts.{block_text, headed}
pub use Rattle.html_tags.specs.InnerParts.{chunk_text, closed}
pub use Rattle.records.specs.Records.{Token, index, tokens}
pub use Rattle.records.specs.declared.Block.{Block}
pub use Rattle.records.specs.declared.Style.{Style}
pub use Rattle.renderer.specs.Walk.{anywhere, body, last, page, walk, with_lay, with_out}
unfoldable pub use Rattle.renderer.specs.Walk.{write}
pub use Rattle.room.specs.Room.{extended, seen}
pub use Rattle.skip.specs.Counter.{hides, skip_end, skip_paragraph, skip_start}
pub use Rattle.splitter.proofs.Answers.{Took}
pub use Rattle.splitter.specs.Answers.{cursor}
unfoldable pub use Rattle.splitter.specs.Split.{split}
pub use borrow.Author.Rules.{rules}
pub use lib.ListN.{length}
pub use mathlib.Core.Bool.{Bool, false, not, true}
pub use mathlib.Core.List.{List, [], ◌++◌, ◌∷◌}
pub use mathlib.Core.Path.{◌∙◌, ◌≡◌, ap, refl, sym}
pub use native.Mathlib.Omega.{arith}
