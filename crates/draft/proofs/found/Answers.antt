use Rattle.draft.proofs.Names.{ap, ◌∙◌, rules}
use Rattle.records.specs.Listed.{left}
use Rattle.draft.proofs.Holding.{default-nothing, built_0, built_inside, built_next, built_done}
use Rattle.draft.proofs.found.Goals as goal

pub loop-r-init : goal.loop-r-init
loop-r-init c =
    rw (default-nothing c.default-d.result c.default-d.ensures)
    (built_0 c.requires (ap left c.into_iter-r-iterator.ensures.into_iter_gives ∙ c.of-r-items.ensures))

pub overflow_add-r : goal.overflow_add-r
overflow_add-r c = let h = built_inside c.loop-r.invariant c.in-Some.ensures.steps in search (rules, h)

pub loop-r-preserved : goal.loop-r-preserved
loop-r-preserved c = built_next c.loop-r.invariant c.in-Some.ensures.steps c.after_record-d.ensures

pub returns : goal.returns
returns c = built_done c.loop-r.invariant c.in-None.ensures.steps.0
