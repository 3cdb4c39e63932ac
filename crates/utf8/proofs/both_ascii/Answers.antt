use Rattle.utf8.proofs.Lanes.{both_low}
use Rattle.utf8.proofs.both_ascii.Goals as goal

pub returns : goal.returns
returns c = both_low c.args.a c.args.b c.fits-a.0 c.fits-b.0
