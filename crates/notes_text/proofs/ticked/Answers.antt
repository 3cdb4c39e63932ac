use Rattle.notes_text.proofs.Names.{◌∙◌, rules}
use Rattle.notes_text.proofs.Ticks.{is_tick, any-ticked}
use Rattle.notes_text.proofs.ticked.Goals as goal

pub returns : goal.returns
returns c = c.any.ensures is_tick record { each = λ x r h p. search rules } ∙ any-ticked c.args.s.now
