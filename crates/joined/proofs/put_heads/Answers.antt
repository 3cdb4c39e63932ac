use Rattle.joined.proofs.Names.{ap, ◌∙◌}
use Rattle.records.specs.Listed.{left}
use Rattle.joined.proofs.Writing.{heading_start, heading_more, heading_done}
use Rattle.joined.proofs.put_heads.Goals as goal

pub loop-r-init : goal.loop-r-init
loop-r-init c = heading_start _ _ (ap left c.into_iter-r-iterator.ensures.into_iter_gives ∙ c.of-r-items.ensures)

pub loop-r-preserved : goal.loop-r-preserved
loop-r-preserved c = heading_more c.loop-r.invariant c.in-Some.ensures.steps _ c.put_all.ensures

pub returns : goal.returns
returns c = heading_done c.loop-r.t c.loop-r.invariant c.in-None.ensures.steps.0
