use Rattle.runs.proofs.Names.{refl, among}
use Rattle.runs.proofs.is_among.Goals as goal

pub returns : goal.returns
unfolding among
returns c = refl
