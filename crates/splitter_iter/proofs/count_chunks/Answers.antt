use Rattle.std.proofs.Common.{length, ap, arith}
use mathlib.Core.Logic.{inl}
use Rattle.splitter_iter.proofs.Left.{split_few, drained}
use Rattle.splitter_iter.proofs.count_chunks.Goals as goal

-- there are at most as many chunks as bytes
pub count-requires-clause-fits : goal.count-requires-clause-fits
count-requires-clause-fits c = inl (omega (arith, ap length c.split.ensures.1, split_few c.args.body.now))

pub returns : goal.returns
returns c =
    let r = c.count.ensures.ran in
    omega (arith, r.2, drained r.0 c.split.result r.1, ap length c.split.ensures.1)
