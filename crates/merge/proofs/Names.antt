-- Names of other crates and libraries that the proofs of this crate cite, by where they are from.
pub use Prim.Native.Nat.{◌+◌, ◌-◌, ◌<◌, ◌≤◌, ℕ}
unfoldable pub use Rattle.base.specs.Result.{◌>>=◌}
pub use Rattle.document.proofs.Walks.{check-gives, verdict_gives, verdict_refused}
pub use Rattle.merge_items.proofs.Reading.{Reads, goes_on, is_over, reads_at, reads_first}
pub use Rattle.merge.specs.InnerSteps.{Accepted, Sound, Written}
pub use Rattle.room.specs.Room.{extended, seen}
pub use borrow.Author.Rules.{rules}
pub use borrow.Author.Tests.{le-leb, lt-leb, not-false, not-true}
pub use lib.ListN.{drop, length, take}
pub use lib.Seq.{length-take-le}
pub use mathlib.Core.List.{List, []}
pub use mathlib.Core.Path.{◌∙◌, ◌≡◌, ap, ap₂, refl, subst, sym}
pub use native.Mathlib.Omega.{arith}
