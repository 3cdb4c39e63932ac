-- Names of other crates and libraries that the proofs of this crate cite, by where they are from.
pub use Rattle.base.proofs.Choice.{if_false, if_true}
pub use Rattle.base.proofs.Results.{bind_end, bind_same}
pub use Rattle.base.specs.Bytes.{ends_with}
pub use Rattle.base.specs.Result.{Result, gives, refused}
unfoldable pub use Rattle.base.specs.Result.{◌>>=◌}
pub use Rattle.console_chunks.specs.InnerShown.{Sheet, ruled, sheet, text_in}
pub use Rattle.console_rules.specs.Console.{State, measure_of, with_column, with_skip}
unfoldable pub use Rattle.console_rules.specs.Console.{line_end, place, raw_chunk, reach}
pub use Rattle.console_rules.specs.declared.Lay.{Lay}
pub use Rattle.console_rules.specs.declared.Settings.{Settings}
pub use Rattle.renderer.specs.Walk.{page, with_lay, with_out}
unfoldable pub use Rattle.renderer.specs.Walk.{write}
pub use Rattle.room.proofs.Lents.{lent_wrote}
pub use Rattle.room.specs.Lent.{Lent, wrote}
pub use Rattle.room.specs.Room.{seen}
pub use Rattle.std.proofs.Common.{◌+◌, ◌-◌, List, [], arith, false, length, replicate, rules, sym, true, ◌||◌, ℕ, ◌∷◌, ◌≡◌}
pub use Rattle.white.specs.White.{trim}
pub use lib.Pointwise.{pointwise}
