use Rattle.notes_text.proofs.Names.{arith}
use Rattle.notes_text.proofs.Ticks.{tick_none}
use Rattle.notes_text.proofs.run_length.Goals as goal

pub returns-then-s-after : goal.returns-then-s-after
returns-then-s-after c = tick_none c.requires (omega arith)
