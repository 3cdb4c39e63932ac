use Rattle.console_chunks.proofs.Names.{[], ◌∷◌, sym, text_in}
use Rattle.std.proofs.Common.{refl, ◌∙◌}
use Rattle.console_chunks.proofs.Pages.{room_put, put_there}
use Rattle.console_chunks.proofs.Bodies.{last_due, last_none}
use Rattle.console_chunks.proofs.Page.last_line.Goals as goal

pub returns-then-line_is_due : goal.returns-then-line_is_due
returns-then-line_is_due c =
    let p = c.args.self.now in
    λ kept.
    put_there (text_in p) kept p.lay _ p.lay (0x0A ∷ []) (λ l. l) refl (room_put _ _ _ _ _ _ c.put.auto.room c.put.ensures)
    ∙ last_due (text_in p) kept p.lay (sym c.line_is_due.ensures ∙ c.if-line_is_due.true)

pub returns-else-line_is_due : goal.returns-else-line_is_due
returns-else-line_is_due c =
    let p = c.args.self.now in
    λ kept. last_none (text_in p) kept p.lay (sym c.line_is_due.ensures ∙ c.if-line_is_due.false)
