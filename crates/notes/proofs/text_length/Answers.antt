use Rattle.notes.proofs.Names.{sym, ◌+◌, ◌≤◌, ◌∙◌, arith, rules, length}
use Rattle.notes.proofs.Scans.{AtEnd, rest_is, at_first, at_next, at_last, at_all}
use Rattle.notes.proofs.text_length.Goals.{After-line_length}
use Rattle.notes.proofs.text_length.Goals as goal

-- where the next line ends
next : (c : After-line_length) → AtEnd c.args.s.now c.args.one (c.loop-len.len + (1 + c.line_length.result))
next c =
    let s = c.args.s.now in
    let l = c.loop-len in
    let e = rest_is s (l.len + 1) in
    at_next s c.args.one l.len l.invariant c.line_length.result (omega arith) (rw e at (sym c.is_last.ensures ∙ c.if-is_last.false))
    (rw e at c.line_length.ensures)

pub loop-len-init : goal.loop-len-init
loop-len-init c = at_first _ _ _ c.line_length-len.ensures

pub returns-then-is_last : goal.returns-then-is_last
returns-then-is_last c =
    let s = c.args.s.now in
    let i = c.loop-len.len in
    at_last s c.args.one i c.loop-len.invariant (omega arith) (rw (rest_is s (i + 1)) at (sym c.is_last.ensures ∙ c.if-is_last.true))

pub overflow_add-len : goal.overflow_add-len
overflow_add-len c =
    let a = next (goal.at.overflow_add-len c).After-line_length in
    let f : c.loop-len.len + (1 + c.line_length.result) ≤ length c.args.s.now = a.going.inside in
    search rules

pub overflow_add-len-in-loop-len : goal.overflow_add-len-in-loop-len
overflow_add-len-in-loop-len c =
    let a = next (goal.at.overflow_add-len-in-loop-len c).After-line_length in
    let f : c.loop-len.len + (1 + c.line_length.result) ≤ length c.args.s.now = a.going.inside in
    search rules

pub loop-len-preserved : goal.loop-len-preserved
loop-len-preserved c = next (goal.at.loop-len-preserved c).After-line_length

pub returns : goal.returns
returns c = at_all c.args.s.now c.args.one c.loop-len.len c.loop-len.invariant (omega arith)
