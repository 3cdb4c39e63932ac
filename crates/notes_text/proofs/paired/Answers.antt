use Rattle.notes_text.proofs.Names.{◌≡◌, length, rules, ticked}
use lib.Dec.{ltb}
use Rattle.notes_text.proofs.Ticks.{last_ticked}
use Rattle.notes_text.proofs.paired.Goals as goal

pub returns-else-within : goal.returns-else-within
returns-else-within c = let e : ltb c.args.after (length c.args.rest.now) ≡ ticked c.args.rest.now = last_ticked c.requires in search rules
