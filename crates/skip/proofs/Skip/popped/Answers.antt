use Rattle.skip.proofs.Names.{sym, ◌∙◌}
use Rattle.skip.proofs.Counter.{pop_one}
use Rattle.skip.proofs.Skip.popped.Goals as goal

pub returns : goal.returns
returns c = rw (← c.self.view_is) (c.saturating_sub-depth.ensures ∙ sym (pop_one _))
