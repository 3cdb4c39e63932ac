use Rattle.sample_lines.proofs.Adding.{repeated-more, repeated-none}
use Rattle.sample_lines.proofs.Writing.{putting_start, putting_more, putting_done}
use Rattle.sample_lines.proofs.Names.{ap, ℕ, arith, repeated}
use Rattle.sample_lines.proofs.documents.put_times.Goals as goal

pub loop-init : goal.loop-init
loop-init c = putting_start _ (ap (λ (n : ℕ). repeated n c.args.bytes.now) (omega arith))

pub loop-preserved : goal.loop-preserved
loop-preserved c =
    let a = c.args in putting_more _ _ _ c.loop.invariant (repeated-more a.times c.loop.counter a.bytes.now c.loop-test.true) c.put_all.ensures

pub returns : goal.returns
returns c = putting_done c.loop.d c.loop.invariant (repeated-none c.args.times c.loop.counter c.args.bytes.now c.loop-test.false)
