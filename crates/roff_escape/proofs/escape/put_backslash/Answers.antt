use Rattle.roff_escape.proofs.Names.{rules}
use Rattle.roff_escape.proofs.Escaping.{puts, puts_nothing, backslash-some, backslash-none}
use Rattle.roff_escape.proofs.escape.put_backslash.Goals as goal

pub returns-in-92 : goal.returns-in-92
returns-in-92 c = puts _ _ _ _ (backslash-some _ c.in-92.is) c.put.ensures

pub returns-in_default : goal.returns-in_default
returns-in_default c = puts_nothing c.args.t.now _ (backslash-none _ (search rules))
