use Rattle.joined.proofs.Names.{ap, ◌∙◌}
use Rattle.joined_check.specs.Listed.{left}
use Rattle.joined.proofs.Writing.{sharing_start, sharing_more_six, sharing_done}
use Rattle.joined.proofs.put_records.Goals as goal

pub loop-s-init : goal.loop-s-init
loop-s-init c =
    sharing_start c.args.joined.now _ _ c.requires c.text_in-text.ensures (ap left c.into_iter-s-iterator.ensures.into_iter_gives ∙ c.of-s-items.ensures.0)

pub loop-s-preserved : goal.loop-s-preserved
loop-s-preserved c =
    sharing_more_six c.loop-s.invariant c.in-Some.ensures.steps.0 c.size.ensures.0 _ _ c.put_all.ensures c.put_all-in-loop-s.ensures c.split_at.ensures.front
    c.split_at.ensures.back

pub returns : goal.returns
returns c = sharing_done c.loop-s.t c.loop-s.invariant c.in-None.ensures.steps.0.0
