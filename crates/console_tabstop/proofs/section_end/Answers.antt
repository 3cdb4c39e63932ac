use Rattle.console_tabstop.proofs.Names.{ap, is_end, head_of, end-by-code, no-end-code}
use Rattle.records.specs.declared.Block.TheVariants as block
use Rattle.console_tabstop.proofs.Ahead.{ahead_none, ahead-here, ahead-later}
use Rattle.console_tabstop.proofs.section_end.Goals as goal

pub returns-then-r-eq-SECTION4_END : goal.returns-then-r-eq-SECTION4_END
returns-then-r-eq-SECTION4_END c =
    let raw_at = c.raw_at-r in
    let inside = c.loop-i-test.true in
    let l = c.loop-i in
    let s = c.args.document.now in
    let here = ap (is_end 3) (end-by-code raw_at.result.code block.Section4 c.if-r-eq-SECTION4_END.true) in
    l.invariant _ (ahead-here s l.i (head_of raw_at.result) raw_at.ensures.read inside here)

pub loop-i-preserved : goal.loop-i-preserved
loop-i-preserved c =
    let raw_at = c.raw_at-r in
    let inside = c.loop-i-test.true in
    let l = c.loop-i in
    let s = c.args.document.now in
    let on = no-end-code raw_at.result.code 3 c.if-r-eq-SECTION4_END.false in
    λ e a. l.invariant e (ahead-later s l.i (head_of raw_at.result) raw_at.ensures.read inside on e a)

pub returns : goal.returns
returns c =
    let l = c.loop-i in
    l.invariant _ (ahead_none c.args.document.now l.i c.loop-i-test.false)
