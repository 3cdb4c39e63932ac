-- Names of other crates and libraries that the proofs of this crate cite, by where they are from.
pub use Prim.Native.Nat.{◌+◌, suc, zero, ℕ, ◌≤◌}
pub use Rattle.base.proofs.Choice.{if_true}
pub use Rattle.base.proofs.Results.{All, given, refusal}
unfoldable pub use Rattle.base.specs.Choice.{when◌then◌else◌}
pub use Rattle.base.specs.Result.{Result, gives, refused}
unfoldable pub use Rattle.base.specs.Result.{◌>>=◌}
pub use Rattle.base.specs.Stack.{top}
pub use Rattle.console_rules.specs.Console.{State, body_chunk, gap_ahead, initial, measure_of, missing, outdent, tabstop, with_gap}
unfoldable pub use Rattle.console_rules.specs.Console.{chunk, console, console_by, due_blank, due_line, ended, finish, fold, line_end, narrow, pad}
unfoldable pub use Rattle.console_rules.specs.Console.{pad_gutter, place, put, raw_chunk, reach, started, tick, turn}
pub use Rattle.console_rules.specs.declared.Settings.{Settings}
unfoldable pub use Rattle.document.specs.Document.{short}
pub use Rattle.records.specs.Records.{Token, tokens}
pub use Rattle.records.specs.declared.Block.{Block}
pub use Rattle.records.specs.declared.Kind.{Kind}
pub use Rattle.renderer.specs.Walk.{last, with_lay, with_out}
unfoldable pub use Rattle.renderer.specs.Walk.{body, walk, write}
unfoldable pub use Rattle.room.specs.Room.{extended}
pub use Rattle.splitter.specs.Split.{Chunk, Placed, line_break, paragraph, raw, split}
unfoldable pub use Rattle.splitter.specs.Split.{is_space}
pub use Rattle.white.specs.White.{trim}
pub use lib.ListN.{length}
pub use mathlib.Core.Bool.{Bool, false, true}
pub use mathlib.Core.List.{List, [], ◌∷◌}
pub use mathlib.Core.Path.{ap, refl, sym, ◌∙◌, ◌≡◌}
pub use native.Mathlib.Omega.{arith}
