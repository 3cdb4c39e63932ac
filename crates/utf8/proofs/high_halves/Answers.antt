use Rattle.utf8.proofs.Names.{◌/◌}
use Rattle.std.proofs.Common.{◌^◌}
use Rattle.std.proofs.lemmas.Simd.{zip2_splat}
use Rattle.utf8.proofs.high_halves.Goals as goal

pub returns : goal.returns
returns c = zip2_splat (λ a b. a / 2 ^ b) c.args.v 16 4 c.fits-v.0
