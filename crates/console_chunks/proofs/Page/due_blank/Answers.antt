use Rattle.console_chunks.proofs.Names.{[], ◌∷◌, sym, text_in}
use Rattle.std.proofs.Common.{refl, ◌∙◌}
use Rattle.console_chunks.proofs.Pages.{room_put, put_there, agree, idle}
use Rattle.console_chunks.proofs.Chunks.{blank_idle, blank_there, blank_due}
use Rattle.console_chunks.proofs.Page.due_blank.Goals.{else-self-via-then-self+else-not-ends_with, else-self-via-else-self}
use Rattle.console_chunks.proofs.Page.due_blank.Goals as goal

pub returns-then-not-ends_with-clause-by_index : goal.returns-then-not-ends_with-clause-by_index
returns-then-not-ends_with-clause-by_index c =
    let p = c.args.self.now in
    λ kept.
    put_there (text_in p) kept p.lay _ p.lay (0x0A ∷ []) (λ l. l) refl (room_put _ _ _ _ _ _ c.put.auto.room c.put.ensures)
    ∙ agree (text_in p) kept p.lay _ _
    (λ o e. sym (blank_due _ _ c.if-self.true (sym (c.ends_with.ensures o e) ∙ c.if-not-ends_with.true)))

pub returns-else-self-clause-by_index : goal.returns-else-self-clause-by_index
returns-else-self-clause-by_index c =
    let p = c.args.self.now in
    λ kept.
    idle (text_in p) kept p.lay _ (λ o e.
    elim c.else-self.branch [
      | else-self-via-then-self+else-not-ends_with w ↦ blank_there _ _ (sym (w.ends_with.ensures o e) ∙ w.if-not-ends_with.false)
      | else-self-via-else-self w ↦ blank_idle _ _ w.if-self.false
    ])
