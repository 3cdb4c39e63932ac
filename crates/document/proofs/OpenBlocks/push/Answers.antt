use Rattle.document.proofs.Names.{arith}
use Rattle.document.proofs.Held.{held_push}
use Rattle.document.proofs.OpenBlocks.push.Goals as goal

pub returns-then-self-clause-one_more : goal.returns-then-self-clause-one_more
returns-then-self-clause-one_more g c h =
    let s = c.self.inside in
    rw (← c.self.view_is) (held_push s.blocks s.depth (omega arith) c.args.b (omega arith))
