use Rattle.document.proofs.Names.{◌<◌, arith, length}
use Rattle.document.proofs.Opening.{opens-deep, opens-more}
use Rattle.document.proofs.OpenBlocks.open.Goals as goal

pub returns-then-min-depth-clause-opened : goal.returns-then-min-depth-clause-opened
returns-then-min-depth-clause-opened g c = λ slots. opens-deep _ _ _ (omega (arith, c.depth.ensures.0, c.min.ensures, c.if-min-depth.true))

pub returns-clause-opened : goal.returns-clause-opened
returns-clause-opened g c = λ slots.
    let low : length c.args.self.now < 32 = omega (arith, c.depth.ensures.0, c.min.ensures, c.if-min-depth.false) in
    rw (c.push.ensures.one_more (omega (arith, slots, low))) (opens-more _ _ _ low)
