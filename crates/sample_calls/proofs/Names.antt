-- Names of other crates and libraries that the proofs of this crate cite, by where they are from.
unfoldable pub use Rattle.base.specs.Choice.{when◌then◌else◌ as choose}
pub use Prim.Native.Nat.{◌<◌, ◌≤◌, ℕ}
unfoldable pub use Rattle.base.specs.Choice.{when◌then◌else◌}
pub use Rattle.base.specs.Result.{measured}
unfoldable pub use Rattle.sample_calls.specs.InnerCalls.{is_call, is_wanted}
pub use borrow.Author.Rules.{rules}
pub use lib.ListN.{length, replicate, take}
pub use mathlib.Core.List.{[]}
pub use mathlib.Core.Path.{◌∙◌, ◌≡◌, ap, refl, sym}
