use Rattle.manpage.proofs.Blocks.{behind_at, behind-kept}
use Rattle.manpage.proofs.behind.Goals as goal

pub returns-then-eq : goal.returns-then-eq
returns-then-eq c = behind_at c.args.captured c.args.place c.args.next c.if-eq.ensures

pub returns-else-eq : goal.returns-else-eq
returns-else-eq c = behind-kept c.args.captured c.args.place c.args.next c.if-eq.ensures
