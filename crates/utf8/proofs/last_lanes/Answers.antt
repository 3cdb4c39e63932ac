use Rattle.utf8.proofs.Names.{arith}
use Rattle.std.proofs.lemmas.Simd.{length-chunk, get_or-chunk}
use Rattle.utf8.specs.declared.TheConstants.{LAST}
use Rattle.utf8.proofs.Tests.{lanes_last}
use Rattle.utf8.proofs.last_lanes.Goals as goal

pub returns : goal.returns
returns c =
    lanes_last c.args.n c.args.v _ c.requires c.fits-v.0 c.fits-v.1 (length-chunk c.args.n 16 LAST (omega arith)) (λ k h. get_or-chunk c.args.n 16 LAST k 0 h)
