use Rattle.notes_text.proofs.Names.{refl, sym, ap, ◌∙◌, ℕ, List}
use Rattle.room.specs.Lent.{text_of, with_bytes}
use Rattle.room.proofs.Lents.{with_none}
use Rattle.notes_text.proofs.Runs.{styles_differ, styles-same, first-bytes, after-first, last_rest, keeps_byte, keeps_span}
use Rattle.notes_text.proofs.Runs.{ran_pair, ran_span, ran_other, ran_end}
use Rattle.notes_text.proofs.put_run.Goals as goal

pub paired-requires : goal.paired-requires
paired-requires c = last_rest c.in-Some.ensures.cases.0 (c.loop-first.invariant.1 _ c.requires)

pub run_length-n-requires : goal.run_length-n-requires
run_length-n-requires c = last_rest c.in-Some.ensures.cases.0 (c.loop-first.invariant.1 _ c.requires)

pub loop-first-preserved-then-paired : goal.loop-first-preserved-then-paired
loop-first-preserved-then-paired c =
    let i = c.loop-first.invariant in
    let e = c.in-Some.ensures.cases.0 in
    (ran_pair i.0 e _ refl refl (sym c.paired.ensures ∙ c.if-paired.true), keeps_byte e refl i.1)

pub returns-then-run-literal : goal.returns-then-run-literal
returns-then-run-literal c =
    let i = c.loop-first.invariant in
    let t = c.loop-first.t in
    let r =
    ran_other i.0 (with_none t.room.ghost_name t.room.now t.len) c.in-Some.ensures.cases.0
    (sym c.paired.ensures ∙ c.if-paired.false) (styles_differ _ _ c.if-run-literal.true) in
    record { text = r.0; run = r.1; last = i.1 }

pub loop-first-preserved : goal.loop-first-preserved
loop-first-preserved c =
    let i = c.loop-first.invariant in
    let n = c.run_length-n in
    let e = c.in-Some.ensures.cases.0 in (
      ran_span i.0 e (sym c.paired.ensures ∙ c.if-paired.false) (styles-same _ _ c.if-run-literal.false) n.result n.ensures
          _ (after-first e n.result) refl _
          (c.put_all.ensures ∙ ap (λ (y : List ℕ). with_bytes y (text_of c.loop-first.t)) (first-bytes e n.result)),
      keeps_span e n.result (after-first e n.result) i.1,
    )

pub returns : goal.returns
returns c =
    let i = c.loop-first.invariant in
    let t = c.loop-first.t in
    let r = ran_end i.0 (with_none t.room.ghost_name t.room.now t.len) c.in_default.ensures.cases in
    record { text = r.0; run = r.1; last = i.1 }
