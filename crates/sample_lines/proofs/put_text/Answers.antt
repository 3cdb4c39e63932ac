use Rattle.sample_lines.proofs.Names.{ap, written}
use Rattle.sample_lines.proofs.Writing.{putting_start, putting_more, putting_done}
use Rattle.sample_lines.specs.declared.Written.{Written}
use Rattle.sample_lines.proofs.put_text.Goals as goal

pub loop-b-init : goal.loop-b-init
loop-b-init c = putting_start _ (ap (λ (t : Written). written 0 t.0.now) c.into_iter-b-iterator.ensures.into_iter_gives)

pub loop-b-preserved : goal.loop-b-preserved
loop-b-preserved c = putting_more _ _ _ c.loop-b.invariant c.in-Some.ensures.steps c.put.ensures

pub returns : goal.returns
returns c = putting_done c.loop-b.t c.loop-b.invariant c.in-None.ensures.steps.0
