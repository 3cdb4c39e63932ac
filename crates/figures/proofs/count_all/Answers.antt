use Rattle.figures.proofs.Names.{sym, ◌∙◌, arith}
use Rattle.figures.proofs.Counting.{counting_all, counting_done, counting_cut, counting-other, counting_body, counting_few, counting_on}
use Rattle.figures.proofs.count_all.Goals as goal

pub loop-r-init : goal.loop-r-init
loop-r-init c =
    let d = c.default-f.ensures in
    rw (c.into_iter-r-iterator.ensures.into_iter_gives, c.of-r-items.ensures) (counting_all (c.args.bundle.now) c.default-f.result d.0 d.1.0 d.1.1.0 d.1.1.1)

pub returns-then-not-fits_at : goal.returns-then-not-fits_at
returns-then-not-fits_at c = counting_cut c.loop-r.invariant c.in-Some.ensures.steps (sym c.fits_at.ensures ∙ c.if-not-fits_at.true)

pub returns-then-raw_at-ne-DOCUMENT : goal.returns-then-raw_at-ne-DOCUMENT
returns-then-raw_at-ne-DOCUMENT c =
    counting-other c.loop-r.invariant c.in-Some.ensures.steps (sym c.fits_at.ensures ∙ c.if-not-fits_at.false) c.raw_at.ensures.code
    c.if-raw_at-ne-DOCUMENT.true

pub add-requires : goal.add-requires
add-requires c =
    let o = c.loop-r.invariant in
    (omega (arith, counting_body o c.in-Some.ensures.steps, c.requires), omega (arith, counting_few o, c.requires), o.bounded)

pub loop-r-preserved : goal.loop-r-preserved
loop-r-preserved c =
    let w = c.add.ensures in
    counting_on c.loop-r.invariant c.in-Some.ensures.steps (sym c.fits_at.ensures ∙ c.if-not-fits_at.false) c.raw_at.ensures.code c.if-raw_at-ne-DOCUMENT.false
    w.value w.bounded.0 w.bounded.1

pub returns : goal.returns
returns c = counting_done c.loop-r.invariant c.in-None.ensures.steps.0
