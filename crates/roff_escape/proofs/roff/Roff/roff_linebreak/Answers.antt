use Rattle.roff_escape.proofs.Names.{linebreak}
use Rattle.roff_escape.proofs.roff.Roff.roff_linebreak.Goals as goal

pub returns : goal.returns
unfolding linebreak
returns c = c.push.ensures
