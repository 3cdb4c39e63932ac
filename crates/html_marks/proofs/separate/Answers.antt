use mathlib.Core.Path.{sym, ◌∙◌}
use Rattle.html_marks.proofs.Marks.{separated-empty, separated_ends, separated-put}
use Rattle.html_marks.proofs.separate.Goals.{else-not-is_empty-via-then-not-is_empty+else-not-ends_with, else-not-is_empty-via-else-not-is_empty}
use Rattle.html_marks.proofs.separate.Goals as goal

pub returns-then-not-ends_with : goal.returns-then-not-ends_with
returns-then-not-ends_with c =
    separated-put c.args.mark.now _ _
    (λ o e. sym c.if-not-is_empty.true ∙ c.is_empty.ensures o e)
    (λ o e. sym c.if-not-ends_with.true ∙ c.ends_with.ensures o e) c.put_all.ensures

pub returns-else-not-is_empty : goal.returns-else-not-is_empty
returns-else-not-is_empty c =
    elim c.else-not-is_empty.branch [
      | else-not-is_empty-via-then-not-is_empty+else-not-ends_with w ↦
          separated_ends c.args.mark.now _ (λ o e. sym w.if-not-ends_with.false ∙ w.ends_with.ensures o e)
      | else-not-is_empty-via-else-not-is_empty w ↦ separated-empty c.args.mark.now _ (λ o e. sym w.if-not-is_empty.false ∙ c.is_empty.ensures o e)
    ]
