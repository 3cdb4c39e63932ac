-- Names of other crates and libraries that the proofs of this crate cite, by where they are from.
pub use Prim.Native.Nat.{◌%◌, ◌*◌, ◌+◌, ◌-◌, ◌/◌, ◌<◌, ◌≤◌, suc, zero, ℕ}
pub use Rattle.base.proofs.Choice.{and_both, and_left, and_right, if_false, if_true, le_or_lt}
pub use Rattle.base.proofs.Results.{bind_gives, else_gives, gives_same, if_gives, refused-gives}
unfoldable pub use Rattle.base.specs.Choice.{when◌then◌else◌}
pub use Rattle.base.specs.Result.{Result, gives, refused}
unfoldable pub use Rattle.base.specs.Result.{◌>>=◌}
unfoldable pub use Rattle.base.specs.Stack.{popped, pushed, top}
pub use Rattle.document.proofs.Walks.{check-gives, first_gives}
unfoldable pub use Rattle.document.specs.Document.{accept, bodiless, check, closed, closes, first, open_blocks, opens, reads, short}
pub use Rattle.joined_rules.specs.Places.{relocated}
unfoldable pub use Rattle.joined_rules.specs.Places.{back_in, byte_from, byte_in, place_from, place_in, placed, turned}
pub use Rattle.records.proofs.Tokens.{drop_past, tokens-some}
pub use Rattle.records.specs.Records.{Token, adds, index}
unfoldable pub use Rattle.records.specs.Records.{blocks, document_text, joined, kind_of, little, order, printing_order, record_fits, size, styles, token_at}
unfoldable pub use Rattle.records.specs.Records.{tokens}
unfoldable pub use Rattle.records.specs.Stored.{head, little_bytes}
pub use Rattle.records.specs.declared.Kind.{Kind}
unfoldable pub use Rattle.room.specs.Room.{extended}
pub use borrow.Author.Tests.{eq-eqb, eqb-true, le-leb, le-ltb, leb-true, lt-leb, ltb-false}
pub use lib.Dec.{eqb, leb, ltb}
pub use lib.ListN.{drop, drop_of_length-le, get_or, length, length-append, length-drop, length-take, take, take-append-drop}
pub use lib.Seq.{drop-append-le, drop_at, drop-drop, length-take-le, take_all, take-append-le, take_at}
pub use mathlib.Core.Bool.{Bool, false, true}
pub use mathlib.Core.List.{List, [], ◌++◌, ◌∷◌, append-nil, map}
pub use mathlib.Core.Logic.{◌⊎◌, inl, inr, ⊎_elim}
pub use mathlib.Core.Path.{◌∙◌, ◌≡◌, ap, ap₂, refl, subst, sym}
pub use native.Mathlib.Omega.{arith}
