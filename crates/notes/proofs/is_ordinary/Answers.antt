use Rattle.notes.proofs.Names.{marked, ordinary, rules}
use Rattle.notes.proofs.is_ordinary.Goals as goal

pub returns : goal.returns
unfolding ordinary marked
returns c = search rules
