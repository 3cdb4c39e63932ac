use Rattle.utf8.proofs.Names.{◌-◌, arith, length}
use Rattle.utf8.proofs.Tests.{last_tested}
use Rattle.utf8.proofs.last_faulty.Goals as goal

pub returns : goal.returns
returns c =
    last_tested c.args.s.now c.args.n (length c.args.s.now - 16) c.faults.result c.last_lanes.result c.faults.ensures c.requires.0 (omega (arith, c.requires.1))
    c.last_lanes.ensures c.any.ensures
