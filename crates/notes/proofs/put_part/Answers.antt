use Rattle.notes.proofs.Steps.{part-written}
use Rattle.notes.proofs.put_part.Goals as goal

pub returns-clause-text : goal.returns-clause-text
returns-clause-text c =
    rw (← c.text_length-n.ensures.is) (
    part-written _ _ _ _ c.args.b _ _ _ c.start_kind.ensures c.end_kind.ensures c.head_of.ensures c.head_of-2.ensures
    c.put_all.ensures c.put_text.ensures c.put_all-2.ensures)
