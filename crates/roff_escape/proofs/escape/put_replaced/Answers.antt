use Rattle.roff_escape.proofs.Names.{arith}
use Rattle.roff_escape.proofs.Escaping.{puts, replaced_apostrophe, replaced-line, replaced-other}
use Rattle.roff_escape.proofs.escape.put_replaced.Goals as goal

pub returns-in-39 : goal.returns-in-39
returns-in-39 c = puts _ _ _ _ (replaced_apostrophe c.args.ends _ c.in-39.is) c.put_all.ensures

pub returns-in-10 : goal.returns-in-10
returns-in-10 c = puts _ _ _ _ (replaced-line c.args.ends _ c.in-10.is) c.put.ensures

pub returns-in_default : goal.returns-in_default
returns-in_default c = puts _ _ _ _ (replaced-other c.args.ends _ (omega arith) (omega arith)) c.put-in_default.ensures
