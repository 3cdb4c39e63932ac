use Rattle.utf8.proofs.Lookup.{lanes_are}
use Rattle.utf8.proofs.faults.Goals as goal

pub returns : goal.returns
returns c =
    lanes_are c.args.s.now c.args.at c.requires.0 c.requires.1 (λ k. (c.type_inv.s k).fits) c.from_on.result c.from_on-2.result c.classes.result
    c.from_on.ensures c.from_on-2.ensures c.classes.ensures
