use Rattle.joined_check.proofs.Checking.{heads-by}
use Rattle.joined_check.proofs.Shares.of.Goals as goal

pub returns : goal.returns
returns c = heads-by c.args.joined.now c.four.ensures.0
