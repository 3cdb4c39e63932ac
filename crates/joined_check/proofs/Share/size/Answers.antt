use Rattle.records.specs.Records.{size}
use Rattle.joined_check.proofs.Share.size.Goals as goal

pub returns : goal.returns
returns c = unfold size in c.four.ensures
