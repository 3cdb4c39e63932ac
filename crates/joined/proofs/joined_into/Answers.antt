use Rattle.std.proofs.lemmas.Result.{err_from_is_err_and}
use Rattle.joined.proofs.Names.{rules, sym, ap, ◌∙◌, ◌≡◌, [], List, ℕ, seen, verdict_gives, verdict_refused}
use Rattle.room.specs.Lent.{Lent, with_bytes}
use Rattle.room.proofs.Lents.{same_room}
use Rattle.joined.proofs.Answering.{join-refused, join-parts}
use Rattle.joined.proofs.joined_into.Goals as goal

pub returns-clause-text : goal.returns-clause-text
returns-clause-text c =
    let v = verdict_gives [] c.check.ensures c.in_ok-check.was in
    let one = c.put_four.new.t in
    let two = c.put_bodies.new.t in
    let three = c.put_heads.new.t in
    let t = c.new-t.ensures in
    let p = c.put_four.ensures ∙ ap (with_bytes _) t in
    let name =
    (same_room _ _ _ _ c.put_heads.ensures).0 ∙ (same_room _ _ _ _ c.put_bodies.ensures).0 ∙ (same_room _ _ _ _ c.put_four.ensures).0
    ∙ ap (λ (v : Lent). v.name) t in
    let back : _ ≡ c.finish-end.new.self.0 = search (rules, sym name) in
    c.answer.ensures.text
    ∙ join-parts c.args.document.now _ c.set_four.new.room _ c.finish-end.result _ one two three c.saturating_sub.result v p c.put_bodies.ensures
    c.put_heads.ensures (ap (λ (r : List ℕ). seen r c.finish-end.result) back ∙ c.finish-end.ensures) c.set_four.auto.room (search rules)
    c.set_four.ensures c.saturating_sub.ensures

pub returns-in_err-check-clause-text : goal.returns-in_err-check-clause-text
returns-in_err-check-clause-text c =
    let p = err_from_is_err_and c.from_residual.result c.from_residual.ensures.1 in
    rw (p.1, p.2) (join-refused c.args.document.now _ (verdict_refused [] c.check.ensures c.in_err-check.was))
