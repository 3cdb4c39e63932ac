use Rattle.console_blocks.proofs.Names.{ap, [], ◌∷◌, ℕ, ◌+◌, text_in, tick}
use Rattle.console_rules.specs.Console.{with_column}
use Rattle.console_chunks.proofs.Pages.{room_put, put_there}
use Rattle.console_blocks.proofs.put_tick.Goals as goal

pub returns-clause-result_after : goal.returns-clause-result_after
unfolding tick
returns-clause-result_after c =
    let p = c.args.page.now in
    λ fits kept.
    put_there (text_in p) kept p.lay _ _ (0x60 ∷ []) (λ l. with_column (l.column.0 + 1) l)
    (ap (λ (n : ℕ). with_column n p.lay) (c.plus-page.ensures.result_value fits)) (room_put _ _ _ _ _ _ c.put.auto.room c.put.ensures)
