use Rattle.roff_escape.proofs.Names.{rules}
use Rattle.roff_escape.proofs.Escaping.{puts, spaces-some, spaces-other}
use Rattle.roff_escape.proofs.escape.put_space.Goals as goal

pub returns-in-32 : goal.returns-in-32
returns-in-32 c = puts _ _ _ _ (spaces-some _ c.in-32.is) c.put_all.ensures

pub returns-in_default : goal.returns-in_default
returns-in_default c = puts _ _ _ _ (spaces-other _ (search rules)) c.put.ensures
