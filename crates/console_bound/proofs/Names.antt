-- Names of other crates and libraries that the proofs of this crate cite, by where they are from.
pub use Prim.Native.Nat.{◌*◌, ◌+◌, ◌-◌, ◌<◌, ◌≤◌, suc, zero, ℕ}
pub use Rattle.base.proofs.Choice.{pick}
unfoldable pub use Rattle.base.specs.Choice.{when◌then◌else◌}
pub use Rattle.base.specs.Result.{Result, gives, measured, refused}
unfoldable pub use Rattle.base.specs.Result.{◌>>=◌}
unfoldable pub use Rattle.base.specs.Stack.{popped, pushed, top}
unfoldable pub use Rattle.console_bound.specs.Bound.{bound, bound_on, ref, refs, room_bound}
unfoldable pub use Rattle.console_rules.specs.Console.{console}
pub use Rattle.console_rules.specs.declared.Settings.{Settings}
unfoldable pub use Rattle.document.specs.Document.{accept, bodiless, check, closed, closes, first, open_blocks, opens, reads, short}
pub use Rattle.records.specs.Records.{Token, index, is_of}
unfoldable pub use Rattle.records.specs.Records.{blocks, joined, kind_of, little, record_fits, size, styles, token_at, tokens}
pub use Rattle.records.specs.declared.Kind.{Kind}
unfoldable pub use Rattle.room.specs.Room.{extended}
pub use Rattle.splitter.specs.Split.{Chunk, Placed, line_break, paragraph, raw}
unfoldable pub use Rattle.splitter.specs.Split.{after_line_end, before, is_space, placed, split, step, ticked}
unfoldable pub use Rattle.white.specs.White.{blank, trim, white, whites}
pub use lib.Dec.{eqb}
pub use lib.ListN.{drop, length, length-append, length-drop, length-replicate, replicate, take, take-append-drop}
pub use mathlib.Core.Bool.{Bool, ◌||◌, false, true}
pub use mathlib.Core.List.{List, [], ◌++◌, ◌∷◌}
pub use mathlib.Core.Path.{◌∙◌, ◌≡◌, ap, refl, sym}
pub use native.Mathlib.Omega.{arith}
