use Rattle.console_blocks.proofs.Names.{ap, ◌∙◌, ℕ, ◌+◌, arith, length, pushed}
use mathlib.Core.Path.{ap₂}
use lib.ListN.{length-take}
use Rattle.base.proofs.Stack.{push-take}
use Rattle.console_blocks.proofs.Depths.{push_shallow}
use Rattle.console_blocks.proofs.Margins.push.Goals as goal

pub returns-then-self-clause-pushes : goal.returns-then-self-clause-pushes
returns-then-self-clause-pushes g c =
    let s = c.self.inside in
    λ slot fits.
    push-take s.columns s.count c.plus-margin.result.0 (omega arith)
    ∙ ap₂ pushed (c.plus-margin.ensures.result_value (omega (arith, c.top.ensures, fits)) ∙ ap (λ (n : ℕ). n + c.args.more.0) c.top.ensures) c.self.view_is

pub returns-then-self-clause-deeper : goal.returns-then-self-clause-deeper
returns-then-self-clause-deeper g c =
    let s = c.self.inside in
    λ n k low h.
    rw (push-take s.columns s.count c.plus-margin.result.0 (omega arith), c.self.view_is)
    (push_shallow n c.args.more.0 k c.plus-margin.result.0 c.args.self.now low (omega (arith, c.plus-margin.ensures.most, c.top.ensures)) h)

pub returns-else-self-clause-pushes : goal.returns-else-self-clause-pushes
returns-else-self-clause-pushes g c =
    let s = c.self.inside in
    λ slot fits. absurd (omega (arith, slot, ap length c.self.view_is, length-take s.count s.columns))
