-- Names of other crates and libraries that the proofs of this crate cite, by where they are from.
pub use Prim.Native.Nat.{◌+◌, ◌-◌, ◌<◌, suc, zero, ℕ, ◌≤◌}
pub use Rattle.base.proofs.Choice.{le_or_lt}
pub use Rattle.base.specs.Bytes.{part}
unfoldable pub use Rattle.base.specs.Choice.{when◌then◌else◌}
pub use Rattle.base.specs.Result.{Result, gives, refused}
unfoldable pub use Rattle.base.specs.Result.{◌>>=◌}
pub use Rattle.renderer.specs.Walk.{Page, page}
pub use Rattle.room.proofs.Laws.{extended_in}
pub use Rattle.room.specs.Lent.{Lent, with_bytes}
pub use Rattle.room.specs.Room.{extended}
pub use Rattle.splitter.proofs.Before.{neither_ends}
pub use Rattle.splitter.specs.Answers.{cursor, placed_from}
pub use Rattle.splitter.specs.Split.{Placed, is_line_end_or_space, raw}
pub use Rattle.utf8.specs.Utf8.{characters, continues}
pub use Rattle.words.specs.InnerCopies.{Copying, Follows, NoLineEnd, NoWordCut}
pub use borrow.Author.Rules.{rules}
pub use lib.ListN.{drop, get_or, length, length-drop, length-take, take}
pub use lib.Seq.{get_or-drop}
pub use mathlib.Core.Bool.{Bool, false, not}
pub use mathlib.Core.List.{◌++◌, List, [], append-nil, ◌∷◌}
pub use mathlib.Core.Logic.{⊎_elim}
pub use mathlib.Core.Path.{ap, refl, sym, ◌∙◌, ◌≡◌}
pub use native.Mathlib.Omega.{arith}
