use Rattle.skip.proofs.Names.{sym, ◌∙◌}
use Rattle.skip.proofs.Blocks.{end-other}
use Rattle.skip.proofs.Skip.end.Goals as goal

pub returns-else-eq : goal.returns-else-eq
returns-else-eq c = end-other c.args.b c.args.self.now (sym c.eq.ensures ∙ c.if-eq.false)
