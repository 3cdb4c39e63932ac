use Rattle.roff_escape.proofs.Names.{rules}
use Rattle.roff_escape.proofs.Escaping.{puts, puts_nothing, guard-some, guard-other, guard_none}
use Rattle.roff_escape.proofs.escape.put_guard.Goals as goal

pub returns-then-not-start : goal.returns-then-not-start
returns-then-not-start c = puts_nothing c.args.t.now _ (guard_none _ _ c.if-not-start.true)

pub returns-in-46 : goal.returns-in-46
returns-in-46 c = puts _ _ _ _ (guard-some _ _ c.if-not-start.false c.in-46.is) c.put_all.ensures

pub returns-in_default : goal.returns-in_default
returns-in_default c = puts_nothing c.args.t.now _ (guard-other _ _ (search rules) c.if-not-start.false)
