use Rattle.html.proofs.Names.{◌≡◌, refl, sym, ◌∙◌, ap, arith, rules, ℕ, List}
use Rattle.room.specs.Lent.{Lent}
use Rattle.room.proofs.Lents.{same_room}
use Rattle.renderer.specs.Rendered.{standing}
use Rattle.splitter.proofs.Steps.{first-none, placed-done}
use Rattle.splitter_iter.proofs.Left.{took_next, none_next}
use Rattle.html.proofs.Walked.{default-plain, on-start, on_full, on-end, on-entered, on-left, on_meta, on_named, body_own}
use Rattle.html.proofs.Walked.{on_hidden, on-body, body-done, body-stopped, body-line, body-on}
use Rattle.html_tags.proofs.Blocks.{listed-is}
use Rattle.html_rules.proofs.Accepted.{start_slot}
use Rattle.html.proofs.walk.Goals as goal

pub records-init : goal.records-init
records-init c =
    rw (
      c.into_iter-r-iterator.ensures.into_iter_gives,
      c.of-r-items.ensures,
      c.bytes.ensures.same,
      c.new-blocks.ensures,
      default-plain _ c.default-lay.ensures,
    )
    (on-start _ _ _ _ _ _ c.new-t.result _ c.new-t.ensures refl (rw c.bytes.ensures.same at c.bytes.ensures.accepted))

pub returns-then-is_full-clause-text : goal.returns-then-is_full-clause-text
returns-then-is_full-clause-text c = on_full _ _ _ _ _ _ c.records.invariant (c.is_full.ensures.full c.if-is_full.true)

pub returns-then-is_of-clause-text : goal.returns-then-is_of-clause-text
returns-then-is_of-clause-text c =
    on_meta _ _ _ _ _ _ c.records.invariant c.in-Some.ensures.steps _ (sym c.is_of.ensures ∙ c.if-is_of.true) c.meet_meta.ensures.refused

pub records-preserved-in-Start : goal.records-preserved-in-Start
records-preserved-in-Start c =
    let o = c.records.invariant in
    let first = c.in-Some.ensures.steps in
    let text = rw (c.is_innermost-listed.ensures ∙ listed-is _) at c.put_start.ensures.text in
    let blocks = c.push.ensures.one_more (start_slot _ o.opened first c.in-Start.is) in
    rw c.put_start.ensures.style
    (on-entered _ _ _ _ _ _ o first _ _ _ c.in-Start.is (sym c.is_of.ensures ∙ c.if-is_of.false) text blocks c.start.ensures)

pub records-preserved-in-End : goal.records-preserved-in-End
records-preserved-in-End c =
    let text = rw (c.is_innermost-listed-in-End.ensures ∙ listed-is _) at c.put_end.ensures.text in
    rw c.put_end.ensures.style
    (on-left _ _ _ _ _ _ c.records.invariant c.in-Some.ensures.steps _ _ _
    c.in-End.is (sym c.is_of.ensures ∙ c.if-is_of.false) c.pop.ensures text c.end.ensures)

pub records-preserved-then-enabled : goal.records-preserved-then-enabled
records-preserved-then-enabled c =
    on_hidden _ _ _ _ _ _ c.records.invariant c.in-Some.ensures.steps c.in-Text.is (sym c.enabled.ensures ∙ c.if-enabled.true)

pub chunks-init : goal.chunks-init
chunks-init c =
    rw (c.split-chunks.ensures.0, c.change_style.ensures.style)
    (body_own
    (on-body _ _ _ _ _ _ c.records.invariant c.in-Some.ensures.steps c.in-Text.is _ (sym c.enabled.ensures ∙ c.if-enabled.false)
    c.change_style.ensures.text))

pub chunks-preserved : goal.chunks-preserved
chunks-preserved c =
    let n = took_next _ _ _ c.next-in-chunks.ensures.steps _ _ c.in-Some-next.is in
    let i = body-line _ _ _ _ _ _ c.chunks.invariant c.put_line-chunks.new.t _ c.put_line-chunks.ensures.place c.put_line-chunks.ensures.text in
    rw n.1 (body-on _ _ _ _ _ _ i n.0 _ (sym (c.ends_body.ensures _) ∙ c.if-ends_body.false) (rw n.1 at c.put_chunk.ensures))

-- a chunk lies further on
pub chunks-smaller : goal.chunks-smaller
chunks-smaller c =
    let n = took_next _ _ _ c.next-in-chunks.ensures.steps _ _ c.in-Some-next.is in
    rw n.1 (omega (arith, n.0.further, n.0.short, c.put_line-chunks.ensures.place))

-- the body's end is reached by a line
pub records-preserved-then-chunks : goal.records-preserved-then-chunks
records-preserved-then-chunks c =
    let i = body-line _ _ _ _ _ _ c.chunks.invariant c.put_line-chunks.new.t _ c.put_line-chunks.ensures.place c.put_line-chunks.ensures.text in
    on_named (body-done _ _ _ _ _ _ i (placed-done _ _ (sym (first-none _ _ c.if-chunks.true))))
    ((same_room _ _ _ _ c.change_style.ensures.text).0 ∙ c.records.invariant.same.0)

-- no chunk is left
pub records-preserved : goal.records-preserved
records-preserved c =
    let i = body-line _ _ _ _ _ _ c.chunks.invariant c.put_line-chunks.new.t _ c.put_line-chunks.ensures.place c.put_line-chunks.ensures.text in
    on_named (body-done _ _ _ _ _ _ i (none_next _ _ _ c.next-in-chunks.ensures.steps c.in_default.is))
    ((same_room _ _ _ _ c.change_style.ensures.text).0 ∙ c.records.invariant.same.0)

pub records-preserved-then-ends_body : goal.records-preserved-then-ends_body
records-preserved-then-ends_body c =
    let n = took_next _ _ _ c.next-in-chunks.ensures.steps _ _ c.in-Some-next.is in
    let i = body-line _ _ _ _ _ _ c.chunks.invariant c.put_line-chunks.new.t _ c.put_line-chunks.ensures.place c.put_line-chunks.ensures.text in
    on_named (body-stopped _ _ _ _ _ _ i n.0 _ (sym (c.ends_body.ensures _) ∙ c.if-ends_body.true) c.enable.ensures)
    ((same_room _ _ _ _ c.change_style.ensures.text).0 ∙ c.records.invariant.same.0)

pub returns-clause-text : goal.returns-clause-text
returns-clause-text c =
    let o = c.records.invariant in
    let n = (same_room _ _ _ _ c.finish.ensures.text).0 ∙ o.same.0 ∙ ap (λ (v : Lent). v.name) c.new-t.ensures in
    let e : _ ≡ c.finish-2.new.t.0 = search (rules, sym n) in
    on-end _ _ _ _ _ _ o _ c.finish.new.t c.in-None.ensures.steps.0 c.finish.ensures.text
    (ap (λ (r : List ℕ). standing r c.finish-2.result) e ∙ c.finish-2.ensures.text)
