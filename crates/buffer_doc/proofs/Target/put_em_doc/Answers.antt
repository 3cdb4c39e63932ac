use Rattle.buffer_doc.proofs.Names.{sym, ap, ◌∙◌, emphasised, arith}
use Rattle.buffer_doc.proofs.Adding.{adds_same}
use Rattle.buffer_doc.proofs.Titles.{em_not, em_next, em_valid, em_short, em_line, em_lines, em_parts}
use Rattle.buffer_doc.proofs.Target.put_em_doc.Goals as goal

pub returns-then-not-is_text-clause-adds : goal.returns-then-not-is_text-clause-adds
returns-then-not-is_text-clause-adds c =
    let same = c.bytes-added.ensures.same in
    let e = em_not _ c.record_at-h.ensures (sym c.if-not-is_text.ensures) in
    adds_same (sym same ∙ sym e ∙ ap emphasised same) c.put_doc.ensures.adds

pub slice_bounds-body-count : goal.slice_bounds-body-count
slice_bounds-body-count c = omega (arith, em_next _ c.bytes-added.ensures.accepted c.record_at-h.ensures (sym c.if-not-is_text.ensures))

pub slice_bounds-body-start : goal.slice_bounds-body-start
slice_bounds-body-start c = omega (arith, em_next _ c.bytes-added.ensures.accepted c.record_at-h.ensures (sym c.if-not-is_text.ensures))

pub put_line-requires : goal.put_line-requires
put_line-requires c =
    let t = sym c.if-not-is_text.ensures in
    (em_short _ c.bytes-added.ensures.accepted c.record_at-h.ensures t, em_valid _ c.bytes-added.ensures.accepted c.record_at-h.ensures t)

pub returns-then-n-body-clause-adds : goal.returns-then-n-body-clause-adds
returns-then-n-body-clause-adds c =
    let t = sym c.if-not-is_text.ensures in
    let e = em_line _ c.bytes-added.ensures.accepted c.record_at-h.ensures t _ c.line_length-n.ensures c.if-n-body.true in
    adds_same (e ∙ ap emphasised c.bytes-added.ensures.same) c.put_line.ensures.adds

pub overflow_add-n : goal.overflow_add-n
overflow_add-n c =
    let t = sym c.if-not-is_text.ensures in
    let l = em_parts _ c.bytes-added.ensures.accepted c.record_at-h.ensures t _ c.line_length-n.ensures c.if-n-body.false in
    omega (arith, l, l.inside, l.short)

pub put_lines-requires : goal.put_lines-requires
put_lines-requires c =
    let t = sym c.if-not-is_text.ensures in
    em_parts _ c.bytes-added.ensures.accepted c.record_at-h.ensures t _ c.line_length-n.ensures c.if-n-body.false

pub returns-clause-adds : goal.returns-clause-adds
returns-clause-adds c =
    let t = sym c.if-not-is_text.ensures in
    let e = em_lines _ c.bytes-added.ensures.accepted c.record_at-h.ensures t _ c.line_length-n.ensures c.if-n-body.false in
    adds_same (e ∙ ap emphasised c.bytes-added.ensures.same) c.put_lines.ensures.adds
