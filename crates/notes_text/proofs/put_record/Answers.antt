use Rattle.notes_text.proofs.Names.{ap, ◌∙◌, ◌≡◌, arith, number, style_of, refl}
use Rattle.notes_text.proofs.Writes.{written, given_room, record_full, record_length, record_set}
use Rattle.notes_text.proofs.put_record.Goals as goal

pub overflow_sub-t : goal.overflow_sub-t
overflow_sub-t c =
    omega (
      arith,
      record_length _ _ _ _ _ _ _ _ (written _ _ _ _ _ _ c.head_of.ensures c.put_all.ensures c.put_run-run.ensures.text)
          (given_room _ _ (c.is_full.ensures.given c.if-not-is_full.true)),
    )

pub overflow_sub-t-then-not-is_full : goal.overflow_sub-t-then-not-is_full
overflow_sub-t-then-not-is_full c =
    omega (
      arith,
      record_length _ _ _ _ _ _ _ _ (written _ _ _ _ _ _ c.head_of.ensures c.put_all.ensures c.put_run-run.ensures.text)
          (given_room _ _ (c.is_full.ensures.given c.if-not-is_full.true)),
    )

pub returns-then-not-is_full-clause-text : goal.returns-then-not-is_full-clause-text
returns-then-not-is_full-clause-text c =
    let kind : c.number-kind.result ≡ number (style_of c.args.literal) = c.number-kind.ensures ∙ ap number c.style_of.ensures in
    rw (← kind)
    (record_set _ _ _ _ _ _ _ _ (written _ _ _ _ _ _ c.head_of.ensures c.put_all.ensures c.put_run-run.ensures.text)
    (given_room _ _ (c.is_full.ensures.given c.if-not-is_full.true)) _ _ refl c.set_head.ensures)

pub returns-else-not-is_full-clause-text : goal.returns-else-not-is_full-clause-text
returns-else-not-is_full-clause-text c =
    let kind : c.number-kind.result ≡ number (style_of c.args.literal) = c.number-kind.ensures ∙ ap number c.style_of.ensures in
    rw (← kind)
    (record_full _ _ _ _ _ _ _ _ (written _ _ _ _ _ _ c.head_of.ensures c.put_all.ensures c.put_run-run.ensures.text)
    (c.is_full.ensures.full c.if-not-is_full.false))
