-- Names of other crates and libraries that the proofs of this crate cite, by where they are from.
pub use Prim.Native.Nat.{◌+◌, ℕ, ◌≤◌}
unfoldable pub use Rattle.base.specs.Choice.{when◌then◌else◌}
pub use Rattle.base.specs.Result.{gives}
unfoldable pub use Rattle.base.specs.Result.{◌>>=◌}
unfoldable pub use Rattle.base.specs.Stack.{pushed, top}
pub use Rattle.console_chunks.specs.InnerShown.{page_of, text_in}
pub use Rattle.console_rules.specs.Console.{outdent}
unfoldable pub use Rattle.console_rules.specs.Console.{ended, started, tick}
pub use lib.ListN.{length, take}
pub use mathlib.Core.List.{List, [], ◌∷◌}
pub use mathlib.Core.Path.{ap, refl, ◌∙◌, ◌≡◌}
pub use native.Mathlib.Omega.{arith}
