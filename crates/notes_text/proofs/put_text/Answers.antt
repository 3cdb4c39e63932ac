use Rattle.notes_text.proofs.Names.{refl, sym, ◌∙◌}
use Rattle.notes_rules.specs.Notes.{text_records}
use Rattle.room.proofs.Lents.{with_none}
use Rattle.notes_text.proofs.Runs.{last_rest, keeps_byte, run_less, leaves_pair, leaves_run, leaves_none}
use Rattle.notes_text.proofs.put_text.Goals as goal

pub paired-requires : goal.paired-requires
paired-requires c = last_rest c.in-Some.ensures.cases.0 (c.loop-first.invariant.1 _ c.after_last-after.ensures)

pub put_record-left-requires : goal.put_record-left-requires
put_record-left-requires c = c.loop-first.invariant.1 _ c.after_last-after.ensures

pub loop-first-preserved-then-paired : goal.loop-first-preserved-then-paired
loop-first-preserved-then-paired c =
    let i = c.loop-first.invariant in
    let e = c.in-Some.ensures.cases.0 in
    (leaves_pair i.0 e _ refl refl (sym c.paired.ensures ∙ c.if-paired.true), keeps_byte e refl i.1)

pub loop-first-smaller : goal.loop-first-smaller
loop-first-smaller c =
    run_less c.loop-first.invariant.0 c.in-Some.ensures.cases.0 (sym c.paired.ensures ∙ c.if-paired.false) _ c.put_record-left.ensures.run

pub loop-first-preserved : goal.loop-first-preserved
loop-first-preserved c =
    let i = c.loop-first.invariant in
    let r = c.put_record-left.ensures in (
      leaves_run i.0 c.in-Some.ensures.cases.0 (sym c.paired.ensures ∙ c.if-paired.false) _ r.run _ r.text,
      λ n l. r.last n (i.1 n l),
    )

pub returns : goal.returns
unfolding text_records
returns c = let t = c.loop-first.t in leaves_none c.loop-first.invariant.0 (with_none t.room.ghost_name t.room.now t.len) c.in_default.ensures.cases
