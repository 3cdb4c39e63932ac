use Rattle.skip.proofs.Names.{arith}
use Rattle.skip.proofs.Counter.{pushes, pushes-none}
use Rattle.skip.proofs.Skip.pushed.Goals as goal

pub returns-then-self-gt0 : goal.returns-then-self-gt0
returns-then-self-gt0 c =
    rw (← c.self.view_is, c.saturating_add-depth.ensures) (pushes _ c.if-self-gt0.true (omega arith))

pub returns : goal.returns
returns c = rw (← c.self.view_is) (pushes-none _ c.if-self-gt0.false)
