-- Names of other crates and libraries that the proofs of this crate cite, by where they are from.
pub use Prim.Native.Nat.{◌+◌, ◌-◌, ◌<◌, ℕ, ◌≤◌}
pub use Rattle.base.proofs.Choice.{and_right, if_false, if_true, le_or_lt, pick}
pub use Rattle.base.specs.Bytes.{part}
pub use Rattle.base.specs.Choice.{when◌then◌else◌}
pub use Rattle.console_rules.specs.Console.{Terms, settles}
unfoldable pub use Rattle.console_rules.specs.Console.{empty_block, settled_at, settled_from, tabstop, term, term_end, term_start, terms}
pub use Rattle.console_tabstop.specs.InnerAhead.{Ahead}
pub use Rattle.console_tabstop.specs.InnerCounted.{Passed, terms_of}
pub use Rattle.records.proofs.Codes.{end-by-code, no-end-code, no-start-code}
pub use Rattle.records.proofs.Reading.{read-on}
pub use Rattle.records.proofs.Tokens.{tokens-end}
pub use Rattle.records.specs.Answers.{Read, head_of}
pub use Rattle.records.specs.Records.{Token, index, is_end, is_start, tokens, tokens_from}
pub use Rattle.records.specs.declared.Block.{Block}
pub use Rattle.records.specs.declared.Head.{Head}
pub use Rattle.records.specs.declared.Kind.{Kind}
pub use Rattle.splitter.proofs.Answers.{count_short}
pub use borrow.Author.Rules.{rules}
pub use borrow.Author.Tests.{leb-true, lt-leb}
pub use lib.Dec.{eqb, leb, ltb}
pub use lib.ListN.{drop, length}
pub use mathlib.Core.Bool.{◌&&◌, Bool, false, false≢true, true}
pub use mathlib.Core.List.{List, [], ◌∷◌}
pub use mathlib.Core.Logic.{⊎_elim}
pub use mathlib.Core.Path.{ap, refl, sym, ◌∙◌, ◌≡◌}
pub use native.Mathlib.Omega.{arith}
