use Rattle.records.proofs.Names.{arith}
use Rattle.records.proofs.Reading.{little-four}
use Rattle.records.proofs.whole_four.Goals as goal

pub returns : goal.returns
returns c =
    let args = c.args in (
      little-four (args.bytes.now) args.at _ _ c.whole_two.ensures.0 c.whole_two-2.ensures.0,
      omega (arith, c.whole_two.ensures, c.whole_two-2.ensures),
    )
