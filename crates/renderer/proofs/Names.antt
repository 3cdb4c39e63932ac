-- Names of other crates and libraries that the proofs of this crate cite, by where they are from.
pub use Prim.Native.Nat.{◌<◌, ◌≤◌, ℕ}
pub use Rattle.base.proofs.Choice.{if_false, if_true, pick}
pub use Rattle.base.proofs.Results.{All, all_bind, bind_assoc, bind_end, bind_same, given}
pub use Rattle.base.specs.Result.{Result, gives, measured, refused}
unfoldable pub use Rattle.base.specs.Result.{◌>>=◌}
pub use Rattle.renderer.specs.Walk.{Page, Turn, last, page, with_out}
unfoldable pub use Rattle.renderer.specs.Walk.{body, shown, walk, write}
pub use Rattle.std.specs.Prelude.{Err, Ok}
pub use Rattle.std.specs.Prelude.{Result as Answer}
pub use Rattle.refusal.specs.Answers.{answered}
pub use Rattle.room.proofs.Laws.{padded-none, seen_in, seen-out}
pub use Rattle.room.specs.Room.{extended, padded, seen}
pub use Rattle.splitter.specs.Split.{Chunk, Placed, line_break, paragraph, raw}
pub use borrow.Author.Rules.{rules}
pub use lib.ListN.{length, take}
pub use mathlib.Core.Bool.{Bool, false, false≢true, true}
pub use mathlib.Core.List.{List, [], ◌++◌, ◌∷◌, append_assoc, append-nil}
pub use mathlib.Core.Path.{◌∙◌, ◌≡◌, ap, refl, sym}
