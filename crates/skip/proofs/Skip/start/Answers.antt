use Rattle.skip.proofs.Names.{sym, ◌∙◌}
use Rattle.skip.proofs.Blocks.{start-other}
use Rattle.skip.proofs.Skip.start.Goals as goal

pub returns-else-eq : goal.returns-else-eq
returns-else-eq c = start-other c.args.b c.args.self.now (sym c.eq.ensures ∙ c.if-eq.false)
