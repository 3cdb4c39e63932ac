-- Names of other crates and libraries that the proofs of this crate cite, by where they are from.
pub use Prim.Native.Nat.{◌+◌, ◌-◌, ◌<◌, ◌≤◌, suc, zero, ℕ}
pub use Rattle.base.proofs.Choice.{and_both, and_left, and_right, if_false, if_true, le_or_lt}
pub use Rattle.base.proofs.Results.{bind_gives, else_gives, gives_same, if_gives, refused-gives}
pub use Rattle.base.proofs.Stack.{length-popped, length-pushed}
unfoldable pub use Rattle.base.specs.Choice.{when◌then◌else◌}
pub use Rattle.base.specs.Result.{Result, gives, refused}
unfoldable pub use Rattle.base.specs.Result.{◌>>=◌}
unfoldable pub use Rattle.base.specs.Stack.{popped, pushed, top}
unfoldable pub use Rattle.buffer.specs.Builder.{fit}
pub use Rattle.buffer_doc.proofs.Adding.{around-given, length-around, length-end}
pub use Rattle.document.proofs.Walks.{Allowed, accept-gives, check-gives, first_gives, open_after}
unfoldable pub use Rattle.document.specs.Document.{check, closed, closes, first, open_blocks, opens, reads, short}
pub use Rattle.merge_rules.specs.Merge.{Each, Filled, IsList, Item, Lists, Merges, Proper, TheMerge, both_lists, first-no-list, first-refused, is_less}
pub use Rattle.merge_rules.specs.Merge.{key, second_no-list, second_refused}
unfoldable pub use Rattle.merge_rules.specs.Merge.{all_records, ascending, by, compared, in_order, list_of, merged, merging, printed, records, weave}
pub use Rattle.std.specs.declared.cmp.Ordering.{Ordering}
pub use Rattle.records.specs.Records.{Token, index}
unfoldable pub use Rattle.records.specs.Records.{adds, blocks, kind_of, little, order, printing_order, size, token_at, tokens}
unfoldable pub use Rattle.records.specs.Stored.{around, end, little_bytes, start, stored}
pub use Rattle.records.specs.declared.Block.{Block}
pub use Rattle.records.specs.declared.Kind.{Kind}
unfoldable pub use Rattle.shape.specs.Shape.{kinds}
pub use borrow.Author.Tests.{eq-eqb, le-leb, le-ltb, leb-false, leb-true, lt-ltb}
pub use lib.Dec.{leb}
pub use lib.ListN.{drop, get_or, length, length-append, take}
pub use mathlib.Core.Bool.{false≢true, true}
pub use mathlib.Core.List.{List, [], ◌++◌, ◌∷◌, append_assoc, append_cancel_left, append-nil}
pub use mathlib.Core.Logic.{◌⊎◌, inl, inr, ⊎_elim}
pub use mathlib.Core.Path.{◌∙◌, ◌≡◌, ap, ap₂, refl, subst, sym}
pub use native.Mathlib.Omega.{arith}
