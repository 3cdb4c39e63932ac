use Rattle.utf8.proofs.Tests.{two_tested}
use Rattle.utf8.proofs.faulty.Goals as goal

pub returns : goal.returns
returns c = two_tested c.args.s.now c.args.at c.faults.result c.faults-2.result c.faults.ensures c.faults-2.ensures c.any.ensures
