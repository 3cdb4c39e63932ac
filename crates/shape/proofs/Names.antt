-- Names of other crates and libraries that the proofs of this crate cite, by where they are from.
pub use Prim.Native.Nat.{◌+◌, ◌-◌, ◌<◌, ◌≤◌, suc, zero, ℕ}
pub use Rattle.base.proofs.Choice.{if_false}
pub use Rattle.base.proofs.Results.{bind_gives, gives_same, refused-gives}
pub use Rattle.base.proofs.Stack.{length-popped, length-pushed, popped-pushed}
unfoldable pub use Rattle.base.specs.Choice.{when◌then◌else◌}
pub use Rattle.base.specs.Result.{Result, gives, refused}
unfoldable pub use Rattle.base.specs.Result.{◌>>=◌}
unfoldable pub use Rattle.base.specs.Stack.{popped, pushed, top}
unfoldable pub use Rattle.document.specs.Document.{check, open_blocks, reads}
pub use Rattle.records.specs.Records.{Token, index}
unfoldable pub use Rattle.records.specs.Records.{blocks, kind_of, little, record_fits, size, styles, token_at, tokens}
pub use Rattle.records.specs.declared.Block.{Block}
pub use Rattle.records.specs.declared.Kind.{Kind}
pub use Rattle.records.specs.declared.Style.{Style}
pub use Rattle.shape.specs.Answers.{Answers, TheAnswer}
unfoldable pub use Rattle.shape.specs.InnerSteps.{Balanced, depth, entered, go, inside, left, step, stray}
pub use Rattle.shape.specs.InnerSteps.{Inside, Stopped, Walked, Want, before, body, closes, inlines, opens, pairs, parts, refuses, texts}
pub use Rattle.shape.specs.Shape.{Content, Holds, OutOfPlace, Shaped, Viable, around, inline, other, same}
unfoldable pub use Rattle.shape.specs.Shape.{kinds}
pub use Rattle.shape.specs.declared.OutOfPlace.{OutOfPlace as Misplaced}
pub use Rattle.std.specs.Prelude.{Option, None, Some, Result as Answer, Ok, Err}
pub use borrow.Author.Rules.{rules}
pub use borrow.Author.Tests.{eq-eqb, eqb-true, ne_eqb}
pub use lib.ListN.{get_or, length, length-append}
pub use mathlib.Core.Bool.{Bool, false, false≢true, true}
pub use mathlib.Core.List.{List, [], ◌++◌, ◌∷◌, append_assoc, append-nil, head-eq_of_cons-eq, map, tail-eq_of_cons-eq}
pub use mathlib.Core.Logic.{◌↔◌}
pub use mathlib.Core.Path.{◌∙◌, ◌≡◌, ap, refl, subst, sym}
pub use native.Mathlib.Omega.{arith}
