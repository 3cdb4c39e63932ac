use Rattle.std.proofs.lemmas.Result.{err_from_is_err_and}
use Rattle.document.proofs.Names.{refl, sym, ap, ◌∙◌, arith, open_blocks}
use Rattle.utf8.specs.Utf8.{utf8}
use mathlib.Core.Logic.{inl, inr}
use Rattle.document.proofs.Refusals.{reads_end}
use Rattle.document.proofs.Opening.{reads-cut, reads-unknown, reads_text, reads-other, reads-body, reads_open, reads-open, reads_close, reads-close, body_last}
use Rattle.document.proofs.open_blocks.Goals.{in-Start+else-size-eq0, in-End+else-size-eq0-2}
use Rattle.document.proofs.open_blocks.Goals as goal

pub loop-at-init : goal.loop-at-init
unfolding open_blocks
loop-at-init c = (refl, omega arith, refl)

pub returns-then-not-fits_at : goal.returns-then-not-fits_at
returns-then-not-fits_at c =
    let l = c.loop-at in
    sym (sym l.invariant.2 ∙ reads-cut (c.args.document.now) l.at _ c.loop-at-test.true (sym c.if-not-fits_at.ensures))

pub returns-in-Unknown : goal.returns-in-Unknown
returns-in-Unknown c =
    let l = c.loop-at in
    let fit = sym c.if-not-fits_at.ensures in
    sym (sym l.invariant.2 ∙ reads-unknown (c.args.document.now) l.at _ c.loop-at-test.true (c.whole_at-h.ensures fit) fit c.in-Unknown.is)

pub returns-in-Text : goal.returns-in-Text
returns-in-Text c =
    let s = c.args.document.now in
    let l = c.loop-at in
    let fit = sym c.if-not-fits_at.ensures in
    let h = c.whole_at-h.ensures fit in
    let v = ap utf8 (sym (body_last h)) ∙ sym c.if-not-valid_last.ensures in
    sym (sym l.invariant.2 ∙ reads-other s l.at _ c.loop-at-test.true h fit c.in-Text.is v)

pub loop-at-preserved-in-Text-1 : goal.loop-at-preserved-in-Text-1
loop-at-preserved-in-Text-1 c =
    let s = c.args.document.now in
    let l = c.loop-at in
    let fit = sym c.if-not-fits_at.ensures in
    let h = c.whole_at-h.ensures fit in
    let v = ap utf8 (sym (body_last h)) ∙ sym c.if-not-valid_last.ensures in
    (l.invariant.0, l.invariant.1, sym (reads_text s l.at _ c.loop-at-test.true h fit c.in-Text-2.is v) ∙ l.invariant.2)

pub returns-in_err-depth-in-Start : goal.returns-in_err-depth-in-Start
returns-in_err-depth-in-Start c =
    let l = c.loop-at in
    let fit = sym c.if-not-fits_at.ensures in
    let no = reads-open (c.args.document.now) l.at _ c.loop-at-test.true (c.whole_at-h.ensures fit) fit c.if-size-eq0.true c.in-Start.is
    c.in_err-depth-in-Start.ensures.counted in
    let p = err_from_is_err_and c.from_residual.result c.from_residual.ensures.1 in
    rw (p.1, p.2) (sym (sym l.invariant.2 ∙ no))

pub loop-at-preserved-then-size-eq0 : goal.loop-at-preserved-then-size-eq0
loop-at-preserved-then-size-eq0 c =
    let l = c.loop-at in
    let fit = sym c.if-not-fits_at.ensures in
    let q = c.in_ok-depth-in-Start.ensures.counted in
    let on = reads_open (c.args.document.now) l.at _ c.loop-at-test.true (c.whole_at-h.ensures fit) fit c.if-size-eq0.true c.in-Start.is q.1 in
    (c.open_block.ensures.long, q.0, sym on ∙ l.invariant.2)

pub returns-in_err-depth-in-End : goal.returns-in_err-depth-in-End
returns-in_err-depth-in-End c =
    let l = c.loop-at in
    let fit = sym c.if-not-fits_at.ensures in
    let no = reads-close (c.args.document.now) l.at _ c.loop-at-test.true (c.whole_at-h.ensures fit) fit c.if-size-eq0-2.true c.in-End.is
    c.in_err-depth-in-End.ensures.counted in
    let p = err_from_is_err_and c.from_residual-in_err-depth-in-End.result c.from_residual-in_err-depth-in-End.ensures.1 in
    rw (p.1, p.2) (sym (sym l.invariant.2 ∙ no))

pub loop-at-preserved : goal.loop-at-preserved
loop-at-preserved c =
    let l = c.loop-at in
    let fit = sym c.if-not-fits_at.ensures in
    let q = c.in_ok-depth-in-End.ensures.counted in
    let on = reads_close (c.args.document.now) l.at _ c.loop-at-test.true (c.whole_at-h.ensures fit) fit c.if-size-eq0-2.true c.in-End.is q.1 in
    (l.invariant.0, q.0, sym on ∙ l.invariant.2)

pub returns-in-Start-2 : goal.returns-in-Start-2
returns-in-Start-2 c =
    let l = c.loop-at in
    let fit = sym c.if-not-fits_at.ensures in
    let stop = reads-body (c.args.document.now) l.at _ c.loop-at-test.true (c.whole_at-h.ensures fit) fit in
    elim c.in-Start-2-1.branch [
      | in-Start+else-size-eq0 w ↦ sym (sym l.invariant.2 ∙ stop (inl (w.in-Start.b, w.in-Start.is)) w.if-size-eq0.false)
      | in-End+else-size-eq0-2 w ↦ sym (sym l.invariant.2 ∙ stop (inr (w.in-End.b, w.in-End.is)) w.if-size-eq0-2.false)
    ]

pub returns : goal.returns
returns c = sym (sym c.loop-at.invariant.2 ∙ reads_end (c.args.document.now) c.loop-at.at _ c.loop-at-test.false)
