-- Names of other crates and libraries that the proofs of this crate cite, by where they are from.
pub use Prim.Native.Nat.{◌*◌, ◌+◌, ◌-◌, ◌<◌, ◌≤◌, suc, zero, ℕ}
pub use Rattle.base.proofs.Choice.{and_left, and_right, if_false, if_true, le_or_lt, pick}
unfoldable pub use Rattle.base.specs.Choice.{when◌then◌else◌}
pub use Rattle.records.specs.Answers.{Read, token_of}
unfoldable pub use Rattle.records.specs.Answers.{bare}
pub use Rattle.records.specs.Records.{Token, index, is_end, is_start, is_text, number, tokens_from}
unfoldable pub use Rattle.records.specs.Records.{blocks, kind_of, little, record_fits, size, styles, token_at, tokens}
pub use Rattle.records.specs.declared.Block.{Block}
pub use Rattle.records.specs.declared.Head.{Head}
pub use Rattle.records.specs.declared.Kind.{Kind}
pub use Rattle.records.specs.declared.Style.{Style}
pub use borrow.Author.Rules.{rules}
pub use borrow.Author.Tests.{eqb-true, le-leb, le-ltb, leb-true, lt-leb, lt-ltb}
pub use lib.Dec.{eqb, leb, ltb}
pub use lib.ListN.{get_or-eq_default, drop, drop_of_length-le, get_or, length, length-drop, take}
pub use lib.Seq.{drop-drop}
pub use mathlib.Core.Bool.{Bool, false, false≢true, true}
pub use mathlib.Core.List.{List, [], ◌∷◌}
pub use mathlib.Core.Path.{◌∙◌, ◌≡◌, ap, ap₂, refl, subst, sym}
pub use native.Mathlib.Nat.{add-zero, le_refl}
pub use native.Mathlib.Omega.{arith}
