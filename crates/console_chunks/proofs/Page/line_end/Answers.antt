use Rattle.console_chunks.proofs.Names.{[], ◌∷◌, text_in, with_column, line_end}
use Rattle.std.proofs.Common.{refl}
use Rattle.console_chunks.proofs.Pages.{room_put, put_there}
use Rattle.console_chunks.proofs.Page.line_end.Goals as goal

pub returns-clause-by_index : goal.returns-clause-by_index
unfolding line_end
returns-clause-by_index c =
    let p = c.args.self.now in
    λ kept. put_there (text_in p) kept p.lay _ _ (0x0A ∷ []) (with_column 0) refl (room_put _ _ _ _ _ _ c.put.auto.room c.put.ensures)
