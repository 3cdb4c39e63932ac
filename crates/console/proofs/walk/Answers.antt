use Rattle.console.proofs.Names.{◌-◌, ◌<◌, ◌≡◌, sym, ap, ◌∙◌, [], List, ℕ, Lent, Sheet, length, arith, Read, Known}
use borrow.Author.Rules.{rules}
use Rattle.room.specs.Room.{seen}
use Rattle.records.specs.declared.Kind.TheVariants as kind
use borrow.Author.Tests.{ltb-true, ltb-false}
use Rattle.refusal.specs.declared.Refusal.TheVariants as refusal
use Rattle.console_tabstop.proofs.Ahead.{known_next}
use Rattle.console.proofs.Standing.{stand_first, stand_over, stand_read, stand_known, stand_startable, stand_less, stand_column, stand_started}
use Rattle.console.proofs.Standing.{stand_ended, stand_hidden, stand_written, stand_refused, margin_low, column_low, body_few, start_few}
use Rattle.console.proofs.Standing.{stands-refused, stands-ended, stands-done, body_front}
use Rattle.console.proofs.walk.Goals.{After-whole_at-h}
use Rattle.console.proofs.walk.Goals as goal

-- the record at `at`, and what is known ahead of the next one
read : (c : After-whole_at-h) → Read c.bytes-document.result.now c.loop-at.at c.whole_at-h.result
read c =
    let s = c.loop-at in
    stand_read _ _ _ _ s.page s.margins s.at s.invariant.0 c.whole_at-h.result c.loop-at-test.true c.whole_at-h.ensures

known : (c : After-whole_at-h) → Known c.bytes-document.result.now c.whole_at-h.result.next c.loop-at.ahead
known c =
    let s = c.loop-at in
    known_next _ s.at c.whole_at-h.result (read c) c.loop-at-test.true s.ahead s.invariant.1

pub loop-at-init : goal.loop-at-init
loop-at-init c = (
  stand_first c.bytes-document.result.now c.args.set c.args.tab.0 _ _ c.new-page.result _ c.bytes-document.ensures.accepted c.new-margins.ensures
      c.new-page.ensures.text c.new-page.ensures.lay,
  λ l. let z : ⊥ = omega arith in absurd z,
)

pub returns-then-is_full : goal.returns-then-is_full
returns-then-is_full c =
    let s = c.loop-at in
    rw (← c.bytes-document.ensures.same)
    (stands-refused c.bytes-document.result.now c.args.set c.args.tab.0 _ _ refusal.NoRoom
    (stand_over _ _ _ _ s.page s.margins s.at s.invariant.0 (c.is_full.ensures.full c.if-is_full.true)))

less : (c : After-whole_at-h) → length c.bytes-document.result.now - c.whole_at-h.result.next < length c.bytes-document.result.now - c.loop-at.at
less c =
    let s = c.loop-at in
    stand_less _ _ _ _ s.page s.margins s.at s.invariant.0 c.whole_at-h.result (read c) c.loop-at-test.true

unknown : (c : After-whole_at-h) → c.whole_at-h.result.kind ≡ kind.Unknown → ⊥
unknown c e =
    let s = c.loop-at in
    stand_known _ _ _ _ s.page s.margins s.at s.invariant.0 c.whole_at-h.result (read c) c.loop-at-test.true e

pub loop-at-smaller-in-Unknown : goal.loop-at-smaller-in-Unknown
loop-at-smaller-in-Unknown c = less (goal.at.loop-at-smaller-in-Unknown c).After-whole_at-h

pub loop-at-preserved-in-Unknown : goal.loop-at-preserved-in-Unknown
loop-at-preserved-in-Unknown c = absurd (unknown (goal.at.loop-at-preserved-in-Unknown c).After-whole_at-h c.in-Unknown.is)

pub loop-at-smaller-in-Start : goal.loop-at-smaller-in-Start
loop-at-smaller-in-Start c = less (goal.at.loop-at-smaller-in-Start c).After-whole_at-h

pub loop-at-preserved-in-Start : goal.loop-at-preserved-in-Start
loop-at-preserved-in-Start c =
    let place = (goal.at.loop-at-preserved-in-Start c).After-whole_at-h in
    let s = c.loop-at in
    let g = c.started in
    let ahead = c.gap_ahead-gap.ensures in
    let l = c.loop-at-test.true in
    let fit =
    stand_startable _ _ _ _ s.page s.margins s.at s.invariant.0 c.whole_at-h.result (read place) l _ c.in-Start.is c.bytes-document.ensures.short
    c.requires in (
      stand_started _ _ _ _ s.page s.margins s.at s.invariant.0 c.whole_at-h.result (read place) l _ c.gap_ahead-gap.result (ahead.gap (known place))
          g.new.page g.new.margins c.in-Start.is (g.ensures.page_after fit) g.ensures.counts g.ensures.moved g.ensures.deeper
          c.requires,
      ahead.knows (known place),
    )

pub loop-at-smaller-in-End : goal.loop-at-smaller-in-End
loop-at-smaller-in-End c = less (goal.at.loop-at-smaller-in-End c).After-whole_at-h

pub loop-at-preserved-in-End : goal.loop-at-preserved-in-End
loop-at-preserved-in-End c =
    let place = (goal.at.loop-at-preserved-in-End c).After-whole_at-h in
    let s = c.loop-at in
    let g = c.ended in
    let fits = stand_column _ _ _ _ s.page s.margins s.at s.invariant.0 c.bytes-document.ensures.short in (
      stand_ended _ _ _ _ s.page s.margins s.at s.invariant.0 c.whole_at-h.result (read place) c.loop-at-test.true _ g.new.page g.new.margins
          c.in-End.is (g.ensures.page_after fits) g.ensures.pops g.ensures.moved,
      known place,
    )

-- text that is skipped

pub loop-at-smaller : goal.loop-at-smaller
loop-at-smaller c = less (goal.at.loop-at-smaller c).After-whole_at-h

pub loop-at-preserved : goal.loop-at-preserved
loop-at-preserved c =
    let place = (goal.at.loop-at-preserved c).After-whole_at-h in
    let s = c.loop-at in (
      stand_hidden _ _ _ _ s.page s.margins s.at s.invariant.0 c.whole_at-h.result (read place) c.loop-at-test.true _ c.in-Text.is
          (ltb-true 0 s.page.lay.skip (sym c.enabled.ensures ∙ c.if-not-enabled.false)),
      known place,
    )

-- text that is written

pub slice_bounds-body-count : goal.slice_bounds-body-count
slice_bounds-body-count c = let r = read (goal.at.slice_bounds-body-count c).After-whole_at-h in omega (arith, r.order)

pub slice_bounds-body-start : goal.slice_bounds-body-start
slice_bounds-body-start c = let r = read (goal.at.slice_bounds-body-start c).After-whole_at-h in omega (arith, r.order, r.high)

pub slice_bounds-tail-start : goal.slice_bounds-tail-start
slice_bounds-tail-start c = let r = read (goal.at.slice_bounds-tail-start c).After-whole_at-h in omega (arith, r.order, r.high)

pub slice_bounds-tail-count : goal.slice_bounds-tail-count
slice_bounds-tail-count c = let r = read (goal.at.slice_bounds-tail-count c).After-whole_at-h in omega (arith, r.order, r.high)

pub slice_bounds-body-end : goal.slice_bounds-body-end
slice_bounds-body-end c = let r = read (goal.at.slice_bounds-body-end c).After-whole_at-h in omega (arith, r.high)

pub put_body-requires : goal.put_body-requires
put_body-requires c =
    let r = read (goal.at.put_body-requires c).After-whole_at-h in
    let s = c.loop-at in
    let few = c.bytes-document.ensures.short in
    let l = c.loop-at-test.true in
    let low = margin_low _ _ _ _ s.page s.margins s.at s.invariant.0 c.whole_at-h.result r l _ c.in-Text.is few in (
      column_low _ _ _ _ s.page s.margins s.at s.invariant.0 c.whole_at-h.result r l _ c.in-Text.is few,
      omega (arith, c.top.ensures, low),
      body_few _ _ _ _ s.page s.margins s.at s.invariant.0 c.whole_at-h.result r l _ c.in-Text.is few,
      start_few _ _ _ _ s.page s.margins s.at s.invariant.0 c.whole_at-h.result r l _ c.in-Text.is few,
      body_front c.bytes-document.result.now c.whole_at-h.result.start c.whole_at-h.result.next (omega (arith, r.order)) (omega (arith, r.high)),
    )

pub returns-in_err-put_body-in-Text : goal.returns-in_err-put_body-in-Text
returns-in_err-put_body-in-Text c =
    let place = (goal.at.returns-in_err-put_body-in-Text c).After-whole_at-h in
    let s = c.loop-at in
    let g = c.put_body in
    let shown = ltb-false 0 s.page.lay.skip (sym c.enabled.ensures ∙ c.if-not-enabled.true) in
    rw (← c.bytes-document.ensures.same)
    (stands-ended c.bytes-document.result.now c.args.set c.args.tab.0 _ _ c.from_residual.result _ c.from_residual.ensures.1
    (stand_refused _ _ _ _ s.page s.margins s.at s.invariant.0 c.whole_at-h.result (read place) c.loop-at-test.true _ c.in-Text.is shown c.top.result.0
    c.top.ensures g.new.page g.result g.ensures _ c.in_err-put_body-in-Text.was))

pub loop-at-smaller-in-Continue-1 : goal.loop-at-smaller-in-Continue-1
loop-at-smaller-in-Continue-1 c = less (goal.at.loop-at-smaller-in-Continue-1 c).After-whole_at-h

pub loop-at-preserved-in-Continue-1 : goal.loop-at-preserved-in-Continue-1
loop-at-preserved-in-Continue-1 c =
    let place = (goal.at.loop-at-preserved-in-Continue-1 c).After-whole_at-h in
    let s = c.loop-at in
    let g = c.put_body in
    let shown = ltb-false 0 s.page.lay.skip (sym c.enabled.ensures ∙ c.if-not-enabled.true) in (
      stand_written _ _ _ _ s.page s.margins s.at s.invariant.0 c.whole_at-h.result (read place) c.loop-at-test.true _ c.in-Text.is shown c.top.result.0
          c.top.ensures g.new.page g.result g.ensures _ c.in_ok-put_body-in-Text.was,
      known place,
    )

pub returns : goal.returns
returns c =
    let s = c.loop-at in
    let l = c.last_line in
    let n = ap (λ (t : Sheet). t.name) (l.ensures []) ∙ s.invariant.0.lent ∙ ap (λ (v : Lent). v.name) c.new-page.ensures.text in
    let e : _ ≡ c.finish-n.new.self.0 = search (rules, sym n) in
    rw (← c.bytes-document.ensures.same) record {
      same = c.answer.ensures.text ∙ ap (λ (r : List ℕ). seen r c.finish-n.result) e ∙ c.finish-n.ensures
          ∙ stands-done _ _ _ _ s.page l.new.self s.margins s.at s.invariant.0 c.loop-at-test.false (l.ensures s.margins);
      fits = c.answer.ensures.inside;
    }
