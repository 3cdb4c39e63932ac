use Rattle.records.proofs.Names.{arith}
use Rattle.records.proofs.Reading.{ends_few, ends_by}
use Rattle.records.proofs.ends_at.Goals as goal

pub returns-else-left-ge6 : goal.returns-else-left-ge6
returns-else-left-ge6 c = ends_few (c.args.document.now) c.args.at _ c.saturating_sub-left.ensures (omega arith)

pub returns-then-left-ge6 : goal.returns-then-left-ge6
returns-then-left-ge6 c =
    ends_by (c.args.document.now) c.args.at _ c.saturating_sub-left.ensures _ c.if-left-ge6.true c.whole_four.ensures.0
