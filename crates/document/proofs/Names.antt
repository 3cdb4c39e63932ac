-- Names of other crates and libraries that the proofs of this crate cite, by where they are from.
pub use Prim.Native.Nat.{◌+◌, ◌-◌, ◌<◌, ◌≤◌, min, suc, zero, ℕ}
pub use Rattle.base.proofs.Choice.{and_left, and_right, if_false, if_true, le_or_lt}
pub use Rattle.base.proofs.Stack.{length-popped, length-pushed, pop_take, push-take, top-take}
pub use Rattle.base.specs.Bytes.{part}
pub use Rattle.base.specs.Result.{Result, gives, refused}
unfoldable pub use Rattle.base.specs.Result.{◌>>=◌}
unfoldable pub use Rattle.document.specs.Answers.{checked}
unfoldable pub use Rattle.document.specs.Document.{accept, bodiless, check, closed, closes, first, open_blocks, opens, reads, short}
pub use Rattle.records.proofs.Tokens.{drop_past, next_at}
pub use Rattle.records.specs.Answers.{Read}
pub use Rattle.records.specs.Records.{Token, index, record_fits, size}
pub use Rattle.records.specs.declared.Block.{Block}
pub use Rattle.records.specs.declared.Head.{Head}
pub use Rattle.records.specs.declared.Kind.{Kind}
pub use Rattle.records.specs.declared.Style.{Style}
pub use Rattle.refusal.specs.Numbers.{refusal_number, refusal_place}
pub use Rattle.refusal.specs.declared.Refusal.{Refusal}
pub use borrow.Author.Rules.{rules}
pub use borrow.Author.Tests.{eq-eqb, eqb-true, le-leb, le-ltb, leb-false, leb-true, lt-leb, lt-ltb, ltb-false, ne_eqb, not-false, not-true}
pub use lib.ListN.{drop, drop_of_length-le, get_or, length, length-drop, length-take, set, take}
pub use lib.Seq.{drop-cons, drop-drop, length-take-le, set_out, take_all}
pub use mathlib.Core.Bool.{false, false≢true, true}
pub use mathlib.Core.List.{List, [], ◌∷◌}
pub use mathlib.Core.Path.{◌∙◌, ◌≡◌, ap, ap₂, refl, subst, sym}
pub use native.Mathlib.Omega.{arith}
