use Rattle.std.proofs.Common.{rules, tests}
use Rattle.notes.proofs.Names.{sym, ap, ◌∙◌, document}
use Rattle.room.proofs.Lents.{with_none}
use Rattle.notes.proofs.Steps.{step_header, step_item, step-blank, step_other, leaves_part, leaves_blank, leaves_none}
use Rattle.notes.proofs.put_parts.Goals as goal

pub loop-rest-preserved-then-is_header : goal.loop-rest-preserved-then-is_header
loop-rest-preserved-then-is_header c =
    let p = c.put_part-rest.ensures in
    leaves_part _ _ _ _ c.loop-rest.invariant _ _ _ p.text
    (rw (p.rest, c.get_from.ensures) (step_header _ (sym c.is_header.ensures ∙ c.if-is_header.true)))

pub loop-rest-preserved-then-is_item : goal.loop-rest-preserved-then-is_item
loop-rest-preserved-then-is_item c =
    let p = c.put_part.ensures in
    leaves_part _ _ _ _ c.loop-rest.invariant _ _ _ p.text
    (rw (p.rest, c.get_from-then-is_item.ensures)
    (step_item _ (sym c.is_header.ensures ∙ c.if-is_header.false) (sym c.is_item.ensures ∙ c.if-is_item.true)))

pub loop-rest-preserved-then-is_blank : goal.loop-rest-preserved-then-is_blank
loop-rest-preserved-then-is_blank c =
    leaves_blank _ _ _ _ c.loop-rest.invariant _
    (step-blank _ (search (rules, tests)) (sym c.is_header.ensures ∙ c.if-is_header.false) (sym c.is_item.ensures ∙ c.if-is_item.false)
    (sym c.is_blank.ensures ∙ c.if-is_blank.true)
    ∙ ap document (sym c.after_line.ensures))

pub loop-rest-preserved : goal.loop-rest-preserved
loop-rest-preserved c =
    let p = c.put_part-else-is_blank.ensures in
    leaves_part _ _ _ _ c.loop-rest.invariant _ _ _ p.text
    (rw p.rest (step_other _ (sym c.is_header.ensures ∙ c.if-is_header.false) (sym c.is_item.ensures ∙ c.if-is_item.false)
    (sym c.is_blank.ensures ∙ c.if-is_blank.false)))

pub returns : goal.returns
returns c =
    let t = c.loop-rest.t in
    leaves_none _ _ _ _ c.loop-rest.invariant (with_none t.room.ghost_name t.room.now t.len) (search (rules, tests))
