use Rattle.document.proofs.Names.{◌∙◌, ap, sym, arith, length}
use Rattle.document.proofs.Held.{held_length, held_pop}
use Rattle.document.proofs.OpenBlocks.pop.Goals as goal

pub returns : goal.returns
returns g c =
    let s = c.self.inside in
    let n = c.depth.ensures.0 ∙ ap length (sym c.self.view_is) ∙ held_length s.blocks s.depth (omega arith) in
    rw (← c.self.view_is, c.saturating_sub-self-inside.ensures, n) (held_pop s.blocks s.depth (omega arith))
