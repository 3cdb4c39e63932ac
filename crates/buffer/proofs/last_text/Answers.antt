use Rattle.buffer.proofs.Written.{last_taken, last_none, last-into, last_new}
use Rattle.buffer.proofs.last_text.Goals as goal

pub returns-in-Some : goal.returns-in-Some
returns-in-Some c = last-into _ _ (last_taken _ _ c.requires c.of.ensures c.last.ensures.ran) c.in-Some.is c.is_text.ensures c.if-is_text.true

pub returns-in_default : goal.returns-in_default
returns-in_default c = last_new _ _ (last_taken _ _ c.requires c.of.ensures c.last.ensures.ran) c.in-Some.is c.is_text.ensures c.if-is_text.false

pub returns-in_default-2 : goal.returns-in_default-2
returns-in_default-2 c = last_none _ _ (last_taken _ _ c.requires c.of.ensures c.last.ensures.ran) c.in_default.is
