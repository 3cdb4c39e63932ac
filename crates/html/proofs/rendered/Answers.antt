use Rattle.std.proofs.lemmas.Result.{err_from_is_err_and}
use Rattle.document.proofs.Walks.{of_gives, of_refused}
use Rattle.html.proofs.Whole.{html-refused, html_accepted}
use Rattle.html.proofs.rendered.Goals as goal

pub returns-in_err-accepted-clause-text : goal.returns-in_err-accepted-clause-text
returns-in_err-accepted-clause-text c =
    let p = err_from_is_err_and c.from_residual.result c.from_residual.ensures.1 in
    rw (p.1, p.2) (html-refused _ _ _ _ _ _ _ (of_refused _ c.of.ensures c.in_err-accepted.was))

pub returns-clause-text : goal.returns-clause-text
returns-clause-text c =
    let g = of_gives _ c.of.ensures c.in_ok-accepted.was in
    html_accepted _ _ _ _ _ _ _ g.0 c.style_sheet.ensures (rw g.1 at c.walk.ensures.text)
