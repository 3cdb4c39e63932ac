use Rattle.joined.proofs.Names.{sym, ◌∙◌, arith}
use Rattle.joined.proofs.Placing.{placing_start, placing_end, placing_here, placing_next}
use Rattle.joined.proofs.place_in.Goals as goal

pub loop-s-init : goal.loop-s-init
loop-s-init c = placing_start c.args.joined.now c.args.p c.of-records.ensures.1 c.of-records.ensures.0

pub returns-then-p-at : goal.returns-then-p-at
returns-then-p-at c =
    let l = c.loop-s in
    let s = c.in-Some.ensures.steps in
    s.1.0 ∙ sym (placing_here c.args.p l.records.at l.at s.0 c.if-p-at.true) ∙ l.invariant

pub loop-s-preserved : goal.loop-s-preserved
loop-s-preserved c =
    let l = c.loop-s in
    let s = c.in-Some.ensures.steps in
    rw c.saturating_add-at.ensures
    (sym (placing_next c.args.p l.records.at l.at s.0 c.size.ensures.0 s.1.1 c.if-p-at.false (omega arith)) ∙ l.invariant)

pub returns : goal.returns
returns c =
    let l = c.loop-s in
    let s = c.in_default.ensures.steps in
    s.1 ∙ sym (placing_end c.args.p l.records.at l.at s.0.0) ∙ l.invariant
