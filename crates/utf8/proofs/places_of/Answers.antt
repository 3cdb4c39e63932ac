use Rattle.utf8.proofs.Names.{arith}
use Rattle.utf8.proofs.Lanes.{two_marked}
use Rattle.utf8.proofs.places_of.Goals as goal

pub returns : goal.returns
returns c = two_marked c.args.a c.args.b 16 c.args.v c.fits-v.0 (omega arith)
