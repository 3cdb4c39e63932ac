use Rattle.splitter.proofs.Names.{sym, ◌∙◌, arith, is_line_end}
use Rattle.splitter.proofs.Before.{before-within}
use Rattle.splitter.proofs.Answers.{ticked-on, ticked-kept, ticked-last}
use Rattle.splitter.proofs.ticked.Goals as goal

pub overflow_add-next : goal.overflow_add-next
overflow_add-next c =
    let w = before-within is_line_end (c.args.body.now) c.args.at _ c.line_end-to.ensures (omega arith) in
    omega (arith, c.well_formed)

pub returns-then-starts_with : goal.returns-then-starts_with
returns-then-starts_with c =
    c.found.ensures
    ∙ ticked-kept (c.args.body.now) c.args.at _ c.line_end-to.ensures _ c.if-last.true (sym c.starts_with.ensures ∙ c.if-starts_with.true)

pub returns-then-last : goal.returns-then-last
returns-then-last c =
    c.found-then-last.ensures
    ∙ ticked-last (c.args.body.now) c.args.at _ c.line_end-to.ensures _ c.if-last.true (sym c.starts_with.ensures ∙ c.if-starts_with.false)

pub returns : goal.returns
returns c = c.found-2.ensures ∙ ticked-on (c.args.body.now) c.args.at _ c.line_end-to.ensures _ c.if-last.false
