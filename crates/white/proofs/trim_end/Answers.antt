use Rattle.white.proofs.Names.{◌∙◌, ◌-◌, arith, length, length-take-le}
use Rattle.white.proofs.Trim.{left_fits, left-next, left-stop}
use Rattle.white.proofs.trim_end.Goals as goal

pub slice_bounds-text-count : goal.slice_bounds-text-count
slice_bounds-text-count c = left_fits (c.loop-k.text.now) c.in-Some.ensures.0 c.in-Some.ensures.1

pub loop-k-smaller : goal.loop-k-smaller
loop-k-smaller c =
    let t = c.loop-k.text.now in
    let fits = left_fits t c.in-Some.ensures.0 c.in-Some.ensures.1 in
    omega (arith, fits, c.in-Some.ensures.0, length-take-le (length t - c.in-Some.k) t (omega arith))

pub loop-k-preserved : goal.loop-k-preserved
loop-k-preserved c = c.loop-k.invariant ∙ left-next (c.loop-k.text.now) c.in-Some.ensures.0 c.in-Some.ensures.1

pub returns : goal.returns
returns c = left-stop (c.loop-k.text.now) (c.args.s.now) c.in_default.ensures c.loop-k.invariant
