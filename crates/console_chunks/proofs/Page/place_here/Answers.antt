use Rattle.console_chunks.proofs.Names.{ℕ, ◌+◌, text_in, with_column, place}
use Rattle.std.proofs.Common.{ap}
use Rattle.console_rules.specs.Console.{settled}
use Rattle.console_chunks.proofs.Pages.{room_put, put_there}
use Rattle.console_chunks.proofs.Page.place_here.Goals as goal

pub returns-clause-result_after : goal.returns-clause-result_after
unfolding place
returns-clause-result_after c =
    let p = c.args.self.now in
    λ fits kept.
    put_there (text_in p) kept p.lay _ _ c.args.text.now (λ l. with_column (l.column.0 + c.args.width.0) (settled l))
    (ap (λ (n : ℕ). with_column n (settled p.lay)) (c.plus.ensures.result_value fits)) (room_put _ _ _ _ _ _ c.put_all.auto.room c.put_all.ensures)
