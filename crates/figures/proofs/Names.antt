-- Names of other crates and libraries that the proofs of this crate cite, by where they are from.
pub use Prim.Native.Nat.{◌*◌, ◌+◌, ◌-◌, ◌<◌, ◌≤◌, suc, zero, ℕ}
pub use Rattle.base.proofs.Choice.{if_false, if_true, le_or_lt, pick}
pub use Rattle.base.specs.Bytes.{part}
unfoldable pub use Rattle.base.specs.Choice.{when◌then◌else◌}
pub use Rattle.base.specs.Result.{Result, gives, measured, refused}
unfoldable pub use Rattle.base.specs.Result.{◌>>=◌}
unfoldable pub use Rattle.base.specs.Stack.{popped, pushed, top}
unfoldable pub use Rattle.console_rules.specs.Console.{console}
pub use Rattle.figures.specs.Bundle.{accepts, figures_of, prints, refuses, shelf}
unfoldable pub use Rattle.figures.specs.Bundle.{document, documents, documents_from, figures, full_text, total}
pub use Rattle.figures.specs.InnerParts.{Few, lent, nothing, plus, printed_of}
unfoldable pub use Rattle.figures.specs.InnerParts.{from}
pub use Rattle.records.specs.Records.{Token}
unfoldable pub use Rattle.records.specs.Records.{blocks, kind_of, little, record_fits, size, styles, token_at, tokens}
pub use Rattle.records.specs.declared.Kind.{Kind}
unfoldable pub use Rattle.room.specs.Room.{extended}
pub use borrow.Author.Tests.{eq-eqb, le-ltb, lt-ltb, ne_eqb}
pub use lib.ListN.{drop, drop_of_length-le, length, length-drop, length-take, take}
pub use mathlib.Core.Bool.{Bool, false, true}
pub use mathlib.Core.List.{List, [], ◌∷◌}
pub use mathlib.Core.Logic.{⊎_elim}
pub use mathlib.Core.Path.{◌∙◌, ◌≡◌, ap, ap₂, refl, sym}
pub use native.Mathlib.Omega.{arith}
