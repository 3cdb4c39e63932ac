use Rattle.manpage.proofs.Names.{sym, ap, ◌∙◌, heading_text}
use Rattle.manpage.proofs.Capturing.{heading_valid, heading-ends, upper-ends, upper_on, valid_own, valid_after}
use Rattle.manpage.proofs.Capturing.{none_left, empty_on, captured_all, nothing_captured}
use Rattle.roff_escape.proofs.Composing.{left-none, left_more}
use Rattle.manpage.proofs.put_captured.Goals as goal

pub returns-then-ends_heading-clause-text : goal.returns-then-ends_heading-clause-text
returns-then-ends_heading-clause-text c =
    let l = c.loop-r in
    let ends = sym c.ends_heading.ensures ∙ c.if-ends_heading.true in
    sym (left-none _ l.m _ (upper-ends _ c.in-Some.ensures.steps ends)) ∙ l.invariant.0

pub returns-then-ends_heading-clause-some : goal.returns-then-ends_heading-clause-some
returns-then-ends_heading-clause-some c =
    let ends = sym c.ends_heading.ensures ∙ c.if-ends_heading.true in
    captured_all c.loop-r.some _ _ (heading-ends _ c.in-Some.ensures.steps ends) c.loop-r.invariant.1

pub escape_cased-requires : goal.escape_cased-requires
escape_cased-requires c = valid_own _ c.in-Some.ensures.steps _ c.text_of-body.ensures c.loop-r.invariant.2

pub loop-r-preserved : goal.loop-r-preserved
loop-r-preserved c =
    let l = c.loop-r in
    let first = c.in-Some.ensures.steps in
    let on = sym c.ends_heading.ensures ∙ c.if-ends_heading.false in (
      left_more _ _ _ _ _ _ _ _ c.escape_cased.ensures (upper_on _ first _ c.text_of-body.ensures l.invariant.2 on) l.invariant.0,
      rw c.is_empty.ensures (sym (empty_on _ first _ c.text_of-body.ensures l.some on) ∙ l.invariant.1),
      valid_after _ first l.invariant.2,
    )

pub returns-clause-text : goal.returns-clause-text
returns-clause-text c =
    let l = c.loop-r in
    sym (left-none _ l.m _ (none_left _ c.in-None.ensures.steps.0)) ∙ l.invariant.0

pub returns-clause-some : goal.returns-clause-some
returns-clause-some c = captured_all c.loop-r.some _ _ (ap heading_text c.in-None.ensures.steps.0 ∙ nothing_captured) c.loop-r.invariant.1

pub returns-then-ends_heading-clause-valid : goal.returns-then-ends_heading-clause-valid
returns-then-ends_heading-clause-valid c = rw (← c.heading.view_is) (heading_valid _ c.heading.invariant)

pub returns-clause-valid : goal.returns-clause-valid
returns-clause-valid c = rw (← c.heading.view_is) (heading_valid _ c.heading.invariant)
