use Rattle.joined.proofs.Names.{refl, ap, ◌∙◌, joined, document_text}
use Rattle.records.specs.Listed.{left}
use Rattle.joined.proofs.Writing.{putting_start, putting_more, putting_done, bodies_step, bodies_end}
use Rattle.joined.proofs.put_bodies.Goals as goal

pub loop-r-init : goal.loop-r-init
loop-r-init c =
    unfold document_text in
    putting_start _ (ap (λ (s : _). joined (left s)) c.into_iter-r-iterator.ensures.into_iter_gives ∙ ap joined c.of-r-items.ensures)

pub loop-r-preserved : goal.loop-r-preserved
loop-r-preserved c = putting_more _ _ c.loop-r.invariant (bodies_step c.in-Some.ensures.steps) refl c.put_all.ensures

pub returns : goal.returns
returns c = putting_done c.loop-r.t c.loop-r.invariant (bodies_end c.in-None.ensures.steps.0)
