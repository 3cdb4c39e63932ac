use Rattle.std.proofs.lemmas.Result.{err_from_is_err_and}
use Rattle.joined_check.proofs.Names.{◌∙◌}
use Rattle.document.proofs.Walks.{verdict_gives, verdict_refused}
use Rattle.joined_check.proofs.Checking.{check-refused, check-reads}
use Rattle.joined_check.proofs.check.Goals as goal

pub returns-in_err-check_text : goal.returns-in_err-check_text
returns-in_err-check_text c =
    let p = err_from_is_err_and c.from_residual.result c.from_residual.ensures.1 in
    rw (p.1, p.2) (check-refused c.args.joined.now (verdict_refused _ c.check_text.ensures c.in_err-check_text.was))

pub returns : goal.returns
returns c = c.read_shares.ensures ∙ check-reads c.args.joined.now (verdict_gives _ c.check_text.ensures c.in_ok-check_text.was)
