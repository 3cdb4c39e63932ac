use Rattle.std.proofs.lemmas.Result.{err_from_is_err_and}
use Rattle.document.proofs.Names.{[], ap, sym, ◌∙◌}
use Rattle.document.specs.Answers.{verdict_of}
use Rattle.document.proofs.Opening.{checked-refused, checked-gives}
use Rattle.document.proofs.Accepted.of.Goals as goal

pub returns-in_err-check : goal.returns-in_err-check
returns-in_err-check c =
    let p = err_from_is_err_and c.from_residual.result c.from_residual.ensures.1 in
    rw (p.1, p.2) (checked-refused (c.args.document.now) (ap (λ r. verdict_of r []) (sym c.in_err-check.was) ∙ c.check.ensures))

pub returns : goal.returns
returns c = checked-gives (c.args.document.now) (ap (λ r. verdict_of r []) (sym c.in_ok-check.was) ∙ c.check.ensures)
