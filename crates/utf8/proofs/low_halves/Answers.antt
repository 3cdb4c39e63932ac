use Rattle.std.proofs.lemmas.Simd.{zip2_splat}
use lib.Bits.{bit_and}
use Rattle.utf8.proofs.low_halves.Goals as goal

pub returns : goal.returns
returns c = zip2_splat bit_and c.args.v 16 15 c.fits-v.0
