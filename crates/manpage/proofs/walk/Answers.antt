use Rattle.manpage.proofs.Names.{◌>>=◌, not, sym, ap, ◌∙◌, [], is_term_ref}
use Rattle.manpage.proofs.Encoding.{accepted_texts}
use Rattle.manpage.proofs.Walking.{on_start, on_unknown, on_started, on_ended, on_text, on_captured, on_empty, on_silent, refused_11, refused_13, done}
use Rattle.manpage.proofs.walk.Goals as goal

pub loop-at-init : goal.loop-at-init
loop-at-init c = on_start c.bytes-document.result.now c.args.m.now (accepted_texts _ [] c.bytes-document.ensures.accepted) c.requires

pub returns-then-is_full-clause-text : goal.returns-then-is_full-clause-text
unfolding ◌>>=◌
returns-then-is_full-clause-text c =
    rw (← c.bytes-document.ensures.same) (refused_13 c.loop-at.invariant (c.is_full.ensures.full c.if-is_full.true))

pub returns-then-is_full-2-clause-text : goal.returns-then-is_full-2-clause-text
unfolding ◌>>=◌
returns-then-is_full-2-clause-text c =
    rw (← c.bytes-document.ensures.same) (refused_13 c.loop-at.invariant (c.is_full-then-is_heading.ensures.full c.if-is_full-2.true))

pub returns-clause-text : goal.returns-clause-text
unfolding ◌>>=◌
returns-clause-text c = rw (← c.bytes-document.ensures.same) (done c.loop-at.invariant c.loop-at-test.false)

pub returns-then-is_of-clause-text : goal.returns-then-is_of-clause-text
unfolding ◌>>=◌
returns-then-is_of-clause-text c =
    rw (← c.bytes-document.ensures.same)
    (c.no_form_in.ensures ∙ refused_11 c.loop-at.invariant c.record_at-r.ensures c.loop-at-test.true (sym c.is_of.ensures ∙ c.if-is_of.true))

pub loop-at-preserved-then-is_silent_kind : goal.loop-at-preserved-then-is_silent_kind
loop-at-preserved-then-is_silent_kind c =
    rw c.behind-captured.ensures
    (on_silent c.loop-at.invariant c.record_at-r.ensures c.loop-at-test.true c.past_silent-next.result
    (sym c.is_silent_kind.ensures ∙ c.if-is_silent_kind.true) c.past_silent-next.ensures.1)

pub loop-at-preserved-else-is_full : goal.loop-at-preserved-else-is_full
loop-at-preserved-else-is_full c =
    on_text c.loop-at.invariant c.record_at-r.ensures c.loop-at-test.true c.put_text.new.m c.in-Text.is
    (c.is_none.ensures ∙ ap not c.if-is_none.true) c.put_text.ensures

pub loop-at-preserved-then-r : goal.loop-at-preserved-then-r
loop-at-preserved-then-r c =
    rw c.behind-captured-then-r.ensures
    (on_empty c.loop-at.invariant c.record_at-r.ensures c.loop-at-test.true c.in-Text.is (c.is_none.ensures ∙ ap not c.if-is_none.false) c.if-r.true)

pub loop-at-preserved-else-r : goal.loop-at-preserved-else-r
loop-at-preserved-else-r c =
    on_captured c.loop-at.invariant c.record_at-r.ensures c.loop-at-test.true c.in-Text.is (c.is_none.ensures ∙ ap not c.if-is_none.false)

pub loop-at-preserved-in-Start : goal.loop-at-preserved-in-Start
loop-at-preserved-in-Start c =
    let n = sym (ap is_term_ref c.in-Start.is) ∙ sym c.is_of.ensures ∙ c.if-is_of.false in
    rw c.opens_capture-captured.ensures
    (on_started c.loop-at.invariant c.record_at-r.ensures c.loop-at-test.true c.started.new.m c.in-Start.is n c.started.ensures)

pub loop-at-preserved-else-is_heading : goal.loop-at-preserved-else-is_heading
loop-at-preserved-else-is_heading c =
    let n = sym (ap is_term_ref c.in-End.is) ∙ sym c.is_of.ensures ∙ c.if-is_of.false in
    let told = rw (c.from_place-records.ensures, c.unwrap_or.ensures) at c.ended.ensures in
    rw c.ends_capture-captured.ensures
    (on_ended c.loop-at.invariant c.record_at-r.ensures c.loop-at-test.true c.ended.new.m c.in-End.is n told)

pub loop-at-preserved : goal.loop-at-preserved
loop-at-preserved c = on_unknown c.loop-at.invariant c.record_at-r.ensures c.loop-at-test.true c.in-Unknown.is
