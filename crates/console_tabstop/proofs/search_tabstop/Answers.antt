use Rattle.console_tabstop.proofs.Names.{[]}
use Rattle.std.proofs.lemmas.Result.{err_from_is_err_and}
use Rattle.document.proofs.Walks.{verdict_gives, verdict_refused}
use Rattle.console_tabstop.proofs.Settled.{search_refused, search_found}
use Rattle.console_tabstop.proofs.search_tabstop.Goals as goal

pub returns-in_err-check : goal.returns-in_err-check
returns-in_err-check c =
    let told = search_refused c.args.document.now _ _ (verdict_refused [] c.check.ensures c.in_err-check.was) in
    let p = err_from_is_err_and c.from_residual.result c.from_residual.ensures.1 in record {
      tabstop = rw (p.1, p.2) told.0;
      settled = rw (p.1, p.2) told.1;
    }

pub returns : goal.returns
returns c =
    let f = c.find_tabstop.ensures in
    let told =
    search_found c.args.document.now [] _ _ (verdict_gives [] c.check.ensures c.in_ok-check.was) f.tabstop.0 f.settled in record {
      tabstop = told.0;
      settled = told.1;
    }
