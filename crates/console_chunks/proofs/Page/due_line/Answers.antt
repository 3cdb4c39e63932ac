use Rattle.console_chunks.proofs.Names.{sym, text_in}
use Rattle.std.proofs.Common.{◌∙◌}
use Rattle.console_chunks.proofs.Pages.{agree, idle}
use Rattle.console_chunks.proofs.Chunks.{line_idle, line_there, line_due}
use Rattle.console_chunks.proofs.Page.due_line.Goals.{else-line_is_due-via-then-line_is_due+else-not-ends_with, else-line_is_due-via-else-line_is_due}
use Rattle.console_chunks.proofs.Page.due_line.Goals as goal

pub returns-then-not-ends_with-clause-by_index : goal.returns-then-not-ends_with-clause-by_index
returns-then-not-ends_with-clause-by_index c =
    let p = c.args.self.now in
    λ kept.
    c.line_end.ensures.by_index kept
    ∙ agree (text_in p) kept p.lay _ _
    (λ o e. sym (line_due _ _ (sym c.line_is_due.ensures ∙ c.if-line_is_due.true) (sym (c.ends_with.ensures o e) ∙ c.if-not-ends_with.true)))

pub returns-else-line_is_due-clause-by_index : goal.returns-else-line_is_due-clause-by_index
returns-else-line_is_due-clause-by_index c =
    let p = c.args.self.now in
    λ kept.
    idle (text_in p) kept p.lay _ (λ o e.
    elim c.else-line_is_due.branch [
      | else-line_is_due-via-then-line_is_due+else-not-ends_with w ↦ line_there _ _ (sym (w.ends_with.ensures o e) ∙ w.if-not-ends_with.false)
      | else-line_is_due-via-else-line_is_due w ↦ line_idle _ _ (sym c.line_is_due.ensures ∙ w.if-line_is_due.false)
    ])
