-- Names of other crates and libraries that the proofs of this crate cite, by where they are from.
pub use Rattle.base.proofs.Choice.{if_false, if_true, pick}
pub use Rattle.records.specs.declared.Block.{Block}
pub use Rattle.records.specs.declared.Block.TheVariants.{InlineBlock}
unfoldable pub use Rattle.skip.specs.Answers.{new_if_fits}
pub use Rattle.skip.specs.Counter.{skip_paragraph}
unfoldable pub use Rattle.skip.specs.Counter.{skip_end, skip_start}
pub use borrow.Author.Rules.{rules}
pub use borrow.Author.Tests.{le-ltb, lt-ltb, not-false, not-true}
pub use lib.Dec.{eqb}
pub use mathlib.Core.Path.{◌∙◌, refl, sym}
pub use native.Mathlib.Omega.{arith}
