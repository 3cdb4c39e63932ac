use Rattle.recorded.proofs.Telling.{told_by}
use Rattle.recorded.proofs.run.run.Goals as goal

pub returns : goal.returns
returns g c =
    let said = c.print_replayed.ensures in
    told_by _ c.args.names.now _ _ c.replay_all-replayed.result c.print_replayed.result c.replay_all-replayed.ensures said.line said.faulty said.failed
