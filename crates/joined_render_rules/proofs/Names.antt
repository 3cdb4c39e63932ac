-- Names of other crates and libraries that the proofs of this crate cite, by where they are from.
pub use Prim.Native.Nat.{◌+◌, ◌≤◌, ℕ}
unfoldable pub use Rattle.base.specs.Choice.{when◌then◌else◌}
pub use Rattle.console_rules.specs.declared.Settings.{Settings}
pub use Rattle.records.specs.Records.{Token, is_end, tokens}
pub use Rattle.records.specs.declared.Block.{Block}
pub use Rattle.records.specs.declared.Style.{Style}
pub use Rattle.renderer.specs.Walk.{body, with_out}
pub use Rattle.splitter.specs.Split.{Chunk, Placed, line_break, paragraph, raw, split}
pub use lib.ListN.{length}
pub use mathlib.Core.Bool.{Bool}
pub use mathlib.Core.List.{List, [], ◌∷◌}
pub use mathlib.Core.Path.{◌∙◌, ◌≡◌, ap, ap₂, refl}
