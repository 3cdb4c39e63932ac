-- Names of other crates and libraries that the proofs of this crate cite, by where they are from.
pub use Prim.Native.Nat.{◌+◌, ◌-◌, ◌/◌, ◌<◌, ◌≤◌, max, suc, zero, ℕ}
pub use Rattle.base.proofs.Choice.{and_both, and_left, and_right, if_false, if_true, le_or_lt, same_test}
pub use Rattle.base.specs.Bytes.{overwritten, pasted}
unfoldable pub use Rattle.base.specs.Choice.{when◌then◌else◌}
pub use Rattle.base.specs.Result.{Result, gives, measured, refused}
unfoldable pub use Rattle.base.specs.Result.{◌>>=◌}
pub use Rattle.buffer.specs.Answers.{Follows, Of01, kept}
unfoldable pub use Rattle.buffer.specs.Builder.{add, closes_block, fit, opens_block, so_far, writes, written}
pub use Rattle.buffer.specs.InnerParts.{Accepted, Goes, longer}
unfoldable pub use Rattle.document.specs.Document.{accept, bodiless, check, closed, closes, first, open_blocks, opens, reads, short}
pub use Rattle.records.proofs.Tables.{index_small}
pub use Rattle.records.proofs.Tokens.{tokens-end}
pub use Rattle.records.specs.Records.{Token, index, number}
unfoldable pub use Rattle.records.specs.Records.{size, token_at}
unfoldable pub use Rattle.records.specs.Stored.{end, head, little_bytes, start, stored, text}
pub use Rattle.records.specs.declared.Block.{Block}
pub use Rattle.records.specs.declared.Kind.{Kind}
pub use Rattle.records.specs.declared.Style.{Style}
pub use Rattle.utf8.specs.Utf8.{utf8}
pub use borrow.Author.Rules.{rules}
pub use borrow.Author.Tests.{eq-eqb, le-leb, le-ltb, leb-true, lt-leb, lt-ltb, ltb-false, ne_eqb, not-false, not-true}
pub use lib.Dec.{eqb, leb, ltb}
pub use lib.ListN.{drop, drop_of_length-le, get_or, length, length-append, length-drop, take, take-append-drop}
pub use lib.Seq.{drop-append-le, drop_at, drop-drop, length-take-le, take-add, take_all, take-append-le, take-append_seam, take_at, take-take}
pub use mathlib.Core.Bool.{Bool, ◌&&◌, false, true}
pub use mathlib.Core.List.{List, [], ◌++◌, ◌∷◌, append_assoc, append-nil}
pub use mathlib.Core.Logic.{inl, inr}
pub use mathlib.Core.Path.{◌∙◌, ◌≡◌, ap, ap₂, refl, subst, sym}
pub use native.Mathlib.Nat.{add_assoc, add-zero, div-add-mod', mod-lt}
pub use native.Mathlib.Omega.{arith}
