use Rattle.records.proofs.Names.{arith}
use Rattle.records.proofs.Reading.{little-two}
use Rattle.records.proofs.whole_two.Goals as goal

pub returns : goal.returns
returns c =
    let args = c.args in (
      omega (arith, little-two (args.bytes.now) args.at, c.from.ensures, c.from-2.ensures),
      omega (arith, c.from.ensures, c.from-2.ensures),
    )
