use Rattle.console_tabstop.proofs.Names.{sym, ◌∙◌, head_of, no-end-code, no-start-code}
use Rattle.console_tabstop.proofs.Passing.{passed-one}
use Rattle.console_tabstop.proofs.next_term.Goals as goal

pub loop-at-preserved : goal.loop-at-preserved
loop-at-preserved c =
    let r = c.whole_raw_at-r in
    let l = c.loop-at in
    let read = r.ensures (sym c.fits_at.ensures ∙ c.if-not-fits_at.false) in
    let start = no-start-code r.result.code 4 c.if-r-eq-TERM_START.false in
    let end = no-end-code r.result.code 4 c.if-r-eq-TERM_END.false in
    passed-one c.args.document.now l.at (head_of r.result) read c.loop-at-test.true start end c.args.from l.invariant
