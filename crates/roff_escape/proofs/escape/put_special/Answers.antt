use Rattle.roff_escape.proofs.Names.{special_byte, with_both}
use Rattle.roff_escape.proofs.escape.put_special.Goals as goal

pub returns : goal.returns
unfolding special_byte
returns c = with_both _ _ _ _ _ (with_both _ _ _ _ _ c.put_guard.ensures c.put_backslash.ensures) c.put_replaced.ensures
