use Rattle.utf8.proofs.Lanes.{all_low}
use Rattle.utf8.proofs.all_ascii.Goals as goal

pub returns : goal.returns
returns c = all_low c.args.v c.fits-v.0
