-- Names of other crates and libraries that the proofs of this crate cite, by where they are from.
pub use Prim.Native.Nat.{◌+◌, ◌*◌, ◌-◌, ◌<◌, ◌≤◌, suc, zero, ℕ}
pub use Rattle.base.proofs.Choice.{if_false, if_true, le_or_lt}
pub use Rattle.base.specs.Bytes.{part}
pub use Rattle.notes_rules.proofs.Lines.{either, or_false}
unfoldable pub use Rattle.notes_rules.specs.Notes.{styled, ticked}
pub use Rattle.notes_rules.specs.Notes.{style_of}
pub use Rattle.notes_text.specs.InnerParts.{Runs, Tick, run_record}
pub use Rattle.records.specs.Records.{number}
unfoldable pub use Rattle.notes_text.specs.InnerParts.{behind, lead}
unfoldable pub use Rattle.records.specs.Stored.{head, stored, text}
pub use Rattle.room.specs.Room.{extended, seen}
pub use borrow.Author.Rules.{rules}
pub use borrow.Author.Tests.{eqb-true, le-ltb, lt-ltb, ne_eqb, not-false}
pub use lib.Dec.{eqb}
pub use lib.ListN.{drop, drop_of_length-le, get_or, length, length-append, length-drop, take, take-append-drop}
pub use lib.Seq.{drop-cons, drop-drop, length-take-le}
pub use mathlib.Core.Bool.{Bool, beq, ◌&&◌, ◌||◌, false, false≢true, not, true}
pub use mathlib.Core.List.{List, [], ◌++◌, ◌∷◌, append_assoc, append-nil}
pub use mathlib.Core.Logic.{⊎_elim}
pub use mathlib.Core.Path.{◌∙◌, ◌≡◌, ap, ap₂, refl, subst, sym}
pub use native.Mathlib.Numerals.{add-one}
pub use native.Mathlib.Omega.{arith}
