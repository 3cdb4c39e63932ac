-- Names of other crates and libraries that the proofs of this crate cite, by where they are from.
pub use Prim.Native.Nat.{◌+◌, ◌-◌, ◌<◌, ◌≤◌, ℕ}
pub use Rattle.base.specs.Bytes.{part, starts_with}
pub use Rattle.notes_rules.specs.Notes.{header_mark, item_mark, text_records}
unfoldable pub use Rattle.notes_rules.specs.Notes.{document, fit, joined, lines, parts, taken_in}
unfoldable pub use Rattle.notes_rules.specs.Without.{blank_line, marked, ordinary, text_left}
pub use Rattle.notes.specs.InnerParts.{Ends, behind}
unfoldable pub use Rattle.records.specs.Stored.{around}
pub use Rattle.room.specs.Room.{extended, seen}
pub use borrow.Author.Rules.{rules}
pub use borrow.Author.Tests.{le-leb, le-ltb, lt-leb, lt-ltb, ne_eqb, not-false, not-true}
pub use lib.ListN.{drop, drop_of_length-le, get_or, length, length-drop, take}
pub use lib.Seq.{drop-cons, drop-drop, length-take-le}
pub use mathlib.Core.Bool.{Bool, ◌&&◌, ◌||◌, false, not, true}
pub use mathlib.Core.List.{List, [], ◌++◌, ◌∷◌, append_assoc, append-nil}
pub use mathlib.Core.Logic.{⊎_elim}
pub use mathlib.Core.Path.{◌∙◌, ◌≡◌, ap, ap₂, refl, subst, sym}
pub use native.Mathlib.Omega.{arith}
