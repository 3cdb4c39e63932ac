use Rattle.joined_check.proofs.Checking.{has_short, has-by}
use Rattle.joined_check.proofs.has_text.Goals as goal

pub returns-else-joined-ge4 : goal.returns-else-joined-ge4
returns-else-joined-ge4 c = has_short (c.args.joined.now) c.if-joined-ge4.false

pub returns-then-joined-ge4 : goal.returns-then-joined-ge4
returns-then-joined-ge4 c = has-by (c.args.joined.now) c.four.result c.if-joined-ge4.true c.four.ensures.0
