-- Names of other crates and libraries that the proofs of this crate cite, by where they are from.
pub use Prim.Native.Nat.{◌+◌, ◌-◌, ◌<◌, ◌≤◌, ℕ}
pub use Rattle.base.proofs.Choice.{and_both, and_left, and_right}
pub use Rattle.base.specs.Bytes.{part}
pub use Rattle.base.specs.Result.{◌>>=◌, gives, refused}
pub use Rattle.merge_items.proofs.Reading.{Holding, Reads, goes_on, is_over, reads_at, reads_first, length-records}
pub use Rattle.merge_rules.proofs.Whole.{around_alone, around_then}
pub use Rattle.merge_sides.specs.InnerSteps.{Ascends, Climbs, Stands, Tells, plain}
unfoldable pub use Rattle.merge_sides.specs.InnerSteps.{all_plain}
pub use Rattle.records.specs.Records.{tokens_from}
unfoldable pub use Rattle.records.specs.Stored.{end, start}
pub use Rattle.shape.specs.Answers.{Answers}
unfoldable pub use Rattle.shape.specs.Shape.{kinds}
pub use borrow.Author.Rules.{rules}
pub use borrow.Author.Tests.{eq-eqb, ne_eqb, not-false, not-true}
pub use lib.ListN.{drop, drop_of_length-le, length, length-append, length-drop, take, take-append-drop}
pub use lib.Seq.{drop_at, drop-drop, length-take-le, take_at}
pub use mathlib.Core.Bool.{Bool, ◌&&◌, false, false≢true, true}
pub use mathlib.Core.List.{List, [], ◌++◌, ◌∷◌, append_assoc}
pub use mathlib.Core.Path.{◌∙◌, ◌≡◌, ap, ap₂, refl, subst, sym}
pub use native.Mathlib.Omega.{arith}
