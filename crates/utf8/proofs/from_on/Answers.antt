use Rattle.utf8.proofs.Names.{arith, ◌-◌}
use Rattle.utf8.proofs.Lookup.{less_splat}
use Rattle.utf8.proofs.from_on.Goals as goal

pub returns : goal.returns
returns c = less_splat (c.args.least - 128) (omega arith) c.args.v 16 c.fits-v.0 c.fits-v.1
