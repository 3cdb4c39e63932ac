use Rattle.console_blocks.proofs.Names.{◌∙◌, ap, ℕ, take, arith}
use Rattle.base.proofs.Stack.{pop_take}
use Rattle.console_blocks.proofs.Margins.pop.Goals as goal

pub returns : goal.returns
returns g c =
    let s = c.self.inside in
    rw (← c.self.view_is) (ap (λ (n : ℕ). take n s.columns) c.saturating_sub-self-inside.ensures ∙ pop_take s.columns s.count (omega arith))
