use Rattle.std.proofs.lemmas.List.{length-replicate}
use Rattle.utf8.proofs.Laws.{size-by, ranged}
use Rattle.utf8.proofs.follows.Goals as goal

pub returns : goal.returns
returns c =
    let a = c.args in
    rw length-replicate at (size-by a.a a.rest.now _ (ranged c.requires c.range_after-lo.ensures) c.begins.ensures)
