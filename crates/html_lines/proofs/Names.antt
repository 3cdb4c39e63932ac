-- Names of other crates and libraries that the proofs of this crate cite, by where they are from.
pub use Prim.Native.Nat.{◌+◌, ◌-◌, ◌<◌, ◌≤◌, suc, zero, ℕ}
pub use Rattle.base.proofs.Results.{bind_assoc, bind_same}
pub use Rattle.base.specs.Bytes.{part}
pub use Rattle.base.specs.Result.{Result, ◌>>=◌, gives}
pub use Rattle.html_lines.specs.InnerLines.{after_line, line_from, plain_line}
pub use Rattle.html_rules.specs.Html.{State, escaped}
unfoldable pub use Rattle.html_rules.specs.Html.{chunk, entity}
unfoldable pub use Rattle.html_rules.specs.Marks.{escaped_by}
pub use Rattle.room.proofs.Laws.{extended_twice}
pub use Rattle.room.specs.Room.{extended, seen}
pub use Rattle.splitter.proofs.Before.{before-after, before-go, before-none, before-part, before-stop}
pub use Rattle.splitter.specs.declared.Cursor.{Cursor}
pub use borrow.Author.Tests.{eq-eqb, ne_eqb}
pub use lib.ListN.{drop, get_or, length, length-append}
pub use mathlib.Core.Bool.{Bool, ◌&&◌, ◌||◌, false, false≢true, true}
pub use mathlib.Core.List.{List, [], ◌++◌, ◌∷◌, append_assoc, append-nil}
pub use mathlib.Core.Path.{◌∙◌, ◌≡◌, ap, refl, sym}
pub use native.Mathlib.Omega.{arith}
