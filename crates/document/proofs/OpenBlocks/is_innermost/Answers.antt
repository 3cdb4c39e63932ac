use Rattle.document.proofs.Names.{◌∙◌, arith}
use Rattle.document.proofs.Held.{held_last}
use Rattle.document.proofs.OpenBlocks.is_innermost.Goals as goal

pub returns : goal.returns
returns g c =
    let s = c.self.inside in
    c.eq.ensures ∙ rw (← c.self.view_is) (held_last s.blocks s.depth (omega arith) c.last.result _ c.last.ensures.value)
