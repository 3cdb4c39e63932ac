use Rattle.sample_calls.proofs.Names.{[]}
use Rattle.document.proofs.Walks.{verdict_refused}
use Rattle.sample_calls.proofs.Calls.{cleared_refused}
use Rattle.sample_calls.proofs.check_in.Goals as goal

pub returns-in_err-check-clause-room : goal.returns-in_err-check-clause-room
returns-in_err-check-clause-room c =
    cleared_refused _ (c.args.room.now) _ _ _ _ c.clear_from.ensures (verdict_refused [] c.check.ensures c.in_err-check.was)
