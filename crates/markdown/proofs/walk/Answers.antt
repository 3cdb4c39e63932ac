use Rattle.markdown.proofs.Names.{◌≤◌, ◌≡◌, length, refl, sym, ap, ◌∙◌, subst, arith, rules, List, ℕ}
use Rattle.room.specs.Lent.{Lent}
use Rattle.room.proofs.Lents.{same_room}
use Rattle.renderer.specs.Rendered.{standing, Inside}
use Rattle.splitter_iter.proofs.Left.{took_next, none_next}
use Rattle.markdown.proofs.Walked.{default-plain, on-start, on_full, on-end, on_unknown, on_meta, on-started, on-ended, on_hidden, on-body, on-done, on_stopped}
use Rattle.markdown.proofs.Walked.{body_words, body-on, on_named, body_own, front_here, front_of}
use Rattle.markdown.proofs.walk.Goals as goal

pub records-init : goal.records-init
records-init c =
    rw (c.of-records.ensures, c.bytes.ensures.same, default-plain _ c.default-lay.ensures)
    (on-start _ _ _ _ c.new-t.result _ c.new-t.ensures refl (rw c.bytes.ensures.same at c.bytes.ensures.accepted))

pub returns-then-is_full-clause-text : goal.returns-then-is_full-clause-text
returns-then-is_full-clause-text c = on_full _ _ _ _ c.records.invariant (c.is_full.ensures.full c.if-is_full.true)

pub returns-then-is_of-clause-text : goal.returns-then-is_of-clause-text
returns-then-is_of-clause-text c =
    on_meta _ _ _ _ c.records.invariant c.in-Some.ensures.steps _ (sym c.is_of.ensures ∙ c.if-is_of.true) c.meet_meta.ensures

pub records-preserved-in-Unknown : goal.records-preserved-in-Unknown
records-preserved-in-Unknown c = on_unknown _ _ _ _ c.records.invariant c.in-Some.ensures.steps c.in-Unknown.is

pub records-preserved-in-Start : goal.records-preserved-in-Start
records-preserved-in-Start c =
    on-started _ _ _ _ c.records.invariant c.in-Some.ensures.steps c.put_start.new.t _ _
    c.in-Start.is (sym c.is_of.ensures ∙ c.if-is_of.false) c.met_term.ensures c.put_start.ensures.text c.put_start.ensures.after

pub records-preserved-in-End : goal.records-preserved-in-End
records-preserved-in-End c =
    on-ended _ _ _ _ c.records.invariant c.in-Some.ensures.steps c.put_end.new.t _
    c.in-End.is (sym c.is_of.ensures ∙ c.if-is_of.false) c.put_end.ensures.text c.put_end.ensures.after

pub records-preserved-then-enabled : goal.records-preserved-then-enabled
records-preserved-then-enabled c =
    on_hidden _ _ _ _ c.records.invariant c.in-Some.ensures.steps c.in-Text.is (sym c.enabled.ensures ∙ c.if-enabled.true)

-- the document from the body's first byte on

pub slice_bounds-tail-start : goal.slice_bounds-tail-start
slice_bounds-tail-start c =
    let f = front_here _ _ _ _ c.records.invariant c.in-Some.ensures.steps in
    let h : c.in-Some.r.start ≤ length c.bytes-in-Text.result.now = omega (arith, f.inside, ap length c.bytes-in-Text.ensures.same) in
    search rules

pub slice_bounds-tail-count : goal.slice_bounds-tail-count
slice_bounds-tail-count c =
    let f = front_here _ _ _ _ c.records.invariant c.in-Some.ensures.steps in
    omega (arith, f.inside, ap length c.bytes-in-Text.ensures.same)

pub chunks-init : goal.chunks-init
chunks-init c =
    rw c.split-chunks.ensures.0 (
      body_own
          (on-body _ _ _ _ c.records.invariant c.in-Some.ensures.steps c.in-Text.is c.change_to_markdown_style.new.t
          (sym c.enabled.ensures ∙ c.if-enabled.false) c.change_to_markdown_style.ensures),
      front_of (front_here _ _ _ _ c.records.invariant c.in-Some.ensures.steps) c.bytes-in-Text.result.now c.bytes-in-Text.ensures.same,
    )

pub chunks-preserved : goal.chunks-preserved
chunks-preserved c =
    let n = took_next _ _ _ c.next-in-chunks.ensures.steps _ _ c.in-Some-next.is in
    rw n.1 (
      body-on _ _ _ _ (body_words _ _ _ _ c.chunks.invariant.0 c.put_plain-chunks.new.t _ (rw (← c.chunks.invariant.1) at c.put_plain-chunks.ensures))
          n.0 c.put_chunk.new.t _ (sym (c.ends_body.ensures _) ∙ c.if-ends_body.false) (rw n.1 at c.put_chunk.ensures.text)
          (rw n.1 at c.put_chunk.ensures.after),
      c.chunks.invariant.1,
    )

pub records-preserved-then-ends_body : goal.records-preserved-then-ends_body
records-preserved-then-ends_body c =
    let n = took_next _ _ _ c.next-in-chunks.ensures.steps _ _ c.in-Some-next.is in
    on_named
    (on_stopped _ _ _ _ (body_words _ _ _ _ c.chunks.invariant.0 c.put_plain-chunks.new.t _ (rw (← c.chunks.invariant.1) at c.put_plain-chunks.ensures))
    c.end_code.new.t c.end_code.ensures.text _ c.end_code.ensures.after n.0 (sym (c.ends_body.ensures _) ∙ c.if-ends_body.true) _ c.enable.ensures)
    ((same_room _ _ _ _ c.change_to_markdown_style.ensures).0 ∙ c.records.invariant.same.0)

-- a chunk lies further on
pub chunks-smaller : goal.chunks-smaller
chunks-smaller c =
    let n = took_next _ _ _ c.next-in-chunks.ensures.steps _ _ c.in-Some-next.is in
    rw n.1 (omega (arith, n.0.further, n.0.short, c.put_plain-chunks.ensures.order))

-- no chunk is left
pub records-preserved : goal.records-preserved
records-preserved c =
    on_named
    (on-done _ _ _ _ (body_words _ _ _ _ c.chunks.invariant.0 c.put_plain-chunks.new.t _ (rw (← c.chunks.invariant.1) at c.put_plain-chunks.ensures))
    c.end_code-in-Text.new.t c.end_code-in-Text.ensures.text _ c.end_code-in-Text.ensures.after
    (none_next _ _ _ c.next-in-chunks.ensures.steps c.in_default-next.is))
    ((same_room _ _ _ _ c.change_to_markdown_style.ensures).0 ∙ c.records.invariant.same.0)

pub returns-clause-text : goal.returns-clause-text
returns-clause-text c =
    let o = c.records.invariant in
    let s = c.change_to_markdown_style-2 in
    let n = (same_room _ _ _ _ s.ensures).0 ∙ o.same.0 ∙ ap (λ (v : Lent). v.name) c.new-t.ensures in
    let e : _ ≡ c.finish.new.t.0 = search (rules, sym n) in
    on-end _ _ _ _ o _ s.new.t c.in_default.ensures.steps.0 s.ensures
    (ap (λ (r : List ℕ). standing r c.finish.result) e ∙ c.finish.ensures.text)

pub returns-clause-inside : goal.returns-clause-inside
returns-clause-inside c =
    let size = (same_room _ _ _ _ c.change_to_markdown_style-2.ensures).1 ∙ c.records.invariant.same.1 in
    subst (λ (n : ℕ). Inside n c.finish.result) size c.finish.ensures.inside
