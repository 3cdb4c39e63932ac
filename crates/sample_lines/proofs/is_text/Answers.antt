use Rattle.sample_lines.proofs.Names.{◌∙◌}
use Rattle.sample_lines.proofs.Lines.{same-more, same_other, same_short, same_empty}
use Rattle.sample_lines.proofs.is_text.Goals as goal

pub loop-b-preserved : goal.loop-b-preserved
loop-b-preserved c =
    let x = c.in-Some-split_first in
    same-more c.loop-b.rest.now _ _ _ x.first.now _ c.in-Some.ensures.steps x.ensures.cases.0 c.if-first-b.false ∙ c.loop-b.invariant

pub returns : goal.returns
returns c = c.is_empty.ensures ∙ same_empty c.loop-b.rest.now _ c.in-None.ensures.steps.0 ∙ c.loop-b.invariant

pub returns-then-first-b : goal.returns-then-first-b
returns-then-first-b c =
    let x = c.in-Some-split_first in
    same_other c.loop-b.rest.now _ _ _ x.first.now _ c.in-Some.ensures.steps x.ensures.cases.0 c.if-first-b.true ∙ c.loop-b.invariant

pub returns-in_default : goal.returns-in_default
returns-in_default c = same_short c.loop-b.rest.now _ _ _ c.in-Some.ensures.steps c.in_default.ensures.cases ∙ c.loop-b.invariant
