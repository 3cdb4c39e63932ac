use Rattle.utf8.proofs.Lookup.{look_ok, looked_up}
use Rattle.utf8.proofs.look_up.Goals as goal

pub swizzle : goal.swizzle
swizzle c = look_ok c.args.halves c.fits-halves.0 c.requires

pub returns : goal.returns
returns c = looked_up c.args.table c.args.halves c.fits-halves.0 c.requires
