use Rattle.console_chunks.proofs.Names.{◌-◌, replicate, text_in, with_column, reach}
use Rattle.std.proofs.Common.{max, refl, ap, ◌∙◌}
use Rattle.console_chunks.proofs.Pages.{room_put, put_there, agree}
use Rattle.console_chunks.proofs.Page.reach_margin.Goals as goal

pub returns-clause-by_index : goal.returns-clause-by_index
unfolding reach
returns-clause-by_index c =
    let p = c.args.self.now in
    let m = c.args.margin.0 in
    let s = c.put_spaces in
    let z = c.missing_to-missing.ensures in
    let x = c.max.ensures in
    λ kept.
    put_there (text_in p) kept p.lay _ _ (replicate (m - p.lay.column.0) 0x20)
    (λ l. with_column (max l.column.0 m) l) (ap (λ k. with_column k p.lay) x) (room_put _ _ _ _ _ _ s.auto.room (rw z at s.ensures))
    ∙ agree (text_in p) kept p.lay _ _ (λ o e. refl)
