use Rattle.std.proofs.Common.{rules}
use Rattle.notes.proofs.Names.{◌≡◌, ◌∙◌, ap, sym, seen, document}
use Rattle.room.specs.Lent.{Lent, with_bytes}
use Rattle.notes.proofs.Steps.{written_first}
use Rattle.notes.proofs.put_notes.Goals as goal

pub returns : goal.returns
returns c =
    let n = sym (ap (λ (t : Lent). t.name) (c.put_parts.ensures ∙ ap (λ (t : Lent). with_bytes (document c.args.s.now) t) c.new-t.ensures)) in
    let e : _ ≡ c.finish.new.self.0 = search (rules, n) in
    ap (λ r. seen r c.finish.result) e ∙ c.finish.ensures ∙ ap (λ (t : Lent). t.shown) c.put_parts.ensures
    ∙ written_first _ _ _ _ c.new-t.ensures
