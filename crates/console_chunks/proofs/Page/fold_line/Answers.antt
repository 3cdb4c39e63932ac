use Rattle.console_chunks.proofs.Names.{◌≡◌, List, ℕ, length, rules, gives, trim, seen, lent_wrote, text_in}
use Rattle.std.proofs.Common.{refl, ap, ◌∙◌}
use Rattle.console_chunks.proofs.Chunks.{fold_done}
use Rattle.console_chunks.proofs.Page.fold_line.Goals as goal

pub returns-clause-by_index : goal.returns-clause-by_index
returns-clause-by_index c =
    let p = c.args.self.now in
    let t = c.trim_end in
    let e : _ ≡ p.room.now = search rules in
    λ kept.
    fold_done (text_in p) kept p.lay _ _
    (lent_wrote (text_in p) _ p.room.now _ (λ n o. gives (trim o)) p.len.0 t.result refl (ap length e) (ap (λ (r : List ℕ). seen r t.result) e ∙ t.ensures))
    (c.line_end.ensures.by_index kept)
