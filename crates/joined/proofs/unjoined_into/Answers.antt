use Rattle.std.proofs.lemmas.Result.{err_from_is_err_and}
use Rattle.joined.proofs.Names.{rules, sym, ap, ◌∙◌, ◌≡◌, [], List, ℕ, verdict_gives, verdict_refused}
use Rattle.room.specs.Lent.{Lent, with_bytes}
use Rattle.room.proofs.Lents.{same_room}
use Rattle.renderer.specs.Rendered.{standing}
use Rattle.joined.proofs.Answering.{unjoin_refused, unjoin_parts}
use Rattle.joined.proofs.unjoined_into.Goals as goal

pub returns-clause-text : goal.returns-clause-text
returns-clause-text c =
    let v = verdict_gives [] c.check.ensures c.in_ok-check.was in
    let t = c.new-t.ensures in
    let w = c.put_records.ensures in
    let name = (same_room _ _ _ _ w).0 ∙ ap (λ (v : Lent). v.name) t in
    let back : _ ≡ c.finish.new.t.0 = search (rules, sym name) in
    ap (λ (r : List ℕ). standing r c.finish.result) back ∙ c.finish.ensures.text
    ∙ unjoin_parts c.args.joined.now _ _ c.put_records.new.t v (w ∙ ap (with_bytes _) t)

pub returns-in_err-check-clause-text : goal.returns-in_err-check-clause-text
returns-in_err-check-clause-text c =
    let p = err_from_is_err_and c.from_residual.result c.from_residual.ensures.1 in
    rw (p.1, p.2) (unjoin_refused c.args.joined.now _ (verdict_refused [] c.check.ensures c.in_err-check.was))
