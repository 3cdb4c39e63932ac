-- Names of other crates and libraries that the proofs of this crate cite, by where they are from.
pub use Prim.Native.Nat.{◌+◌, ◌-◌, ◌<◌, ◌≤◌, suc, zero, ℕ}
pub use Rattle.base.proofs.Choice.{if_false, if_true, le_or_lt}
pub use Rattle.base.specs.Result.{Result, gives}
unfoldable pub use Rattle.base.specs.Result.{◌>>=◌}
pub use Rattle.merge_items.specs.InnerSteps.{Closes, Found, Keyed}
unfoldable pub use Rattle.merge_items.specs.InnerSteps.{text_to}
pub use Rattle.merge_rules.proofs.Ends.{body-closing, content_ends, none-some, some_same, term-closing}
unfoldable pub use Rattle.merge_rules.specs.InnerEnds.{deeper, end_of, on}
unfoldable pub use Rattle.merge_rules.specs.Merge.{compared}
pub use Rattle.records.proofs.Reading.{read_next}
pub use Rattle.records.proofs.Tokens.{tokens_at, tokens-end}
pub use Rattle.records.specs.Answers.{Read}
pub use Rattle.records.specs.Records.{Token, tokens_from}
unfoldable pub use Rattle.records.specs.Records.{token_at}
pub use Rattle.records.specs.declared.Block.{Block}
pub use Rattle.records.specs.declared.Head.{Head}
pub use Rattle.room.proofs.Laws.{extended_in, extended_twice, seen_in, seen-out}
pub use Rattle.room.specs.Room.{extended}
unfoldable pub use Rattle.room.specs.Room.{seen}
pub use borrow.Author.Rules.{rules}
pub use borrow.Author.Tests.{le-ltb, lt-ltb}
pub use lib.ListN.{drop, length, take}
pub use mathlib.Core.List.{List, [], ◌++◌, ◌∷◌, append_assoc, append-nil}
pub use mathlib.Core.Logic.{⊎_elim}
pub use mathlib.Core.Path.{◌∙◌, ◌≡◌, ap, ap₂, refl, sym}
pub use native.Mathlib.Omega.{arith}
