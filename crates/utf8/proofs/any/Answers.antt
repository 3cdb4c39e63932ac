use Rattle.utf8.proofs.Lanes.{any_of}
use Rattle.utf8.proofs.any.Goals as goal

pub returns : goal.returns
returns c = any_of c.args.v c.fits-v.0
