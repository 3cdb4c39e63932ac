use Rattle.roff_escape.proofs.Names.{refl, plain}
use Rattle.roff_escape.proofs.escape.is_plain.Goals as goal

pub returns : goal.returns
unfolding plain
returns c = refl
