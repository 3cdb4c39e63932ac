use Rattle.std.proofs.lemmas.Result.{err_from_is_err_and}
use Rattle.std.specs.Borrow.{GName}
use Rattle.room.specs.Lent.{Lent, with_bytes}
use Rattle.room.specs.declared.Text.{Text}
use Rattle.renderer.specs.Rendered.{standing}
use Rattle.manpage.proofs.Names.{◌≡◌, rules, sym, ap, ◌∙◌, List, ℕ, seen, preamble, roff}
use Rattle.document.proofs.Walks.{of_gives, of_refused}
use Rattle.manpage.proofs.Walking.{roff-refused, walked_refused, walked_given}
use Rattle.manpage.proofs.rendered.Goals as goal

-- the same text, in a room of a name
same_seen : (w t : Text) → t ≡ w → seen t.room.now t.len ≡ seen w.room.now w.len
same_seen w t e = ap (λ (t : Text). seen t.room.now t.len) e

named : (w : Text) (n : GName) → w.room.ghost_name ≡ n → (t : Text) → t ≡ w → n ≡ t.room.ghost_name
named w n e t f = sym (ap (λ (t : Text). t.room.ghost_name) f ∙ e)

pub returns-in_err-accepted-clause-text : goal.returns-in_err-accepted-clause-text
returns-in_err-accepted-clause-text c =
    let p = err_from_is_err_and c.from_residual.result c.from_residual.ensures.1 in
    rw (p.1, p.2) (sym (roff-refused _ (c.args.document.now) _ _ (of_refused _ c.of.ensures c.in_err-accepted.was)))

pub returns-in_err-walk-clause-text : goal.returns-in_err-walk-clause-text
returns-in_err-walk-clause-text c =
    let p = err_from_is_err_and c.from_residual-in_err-walk.result c.from_residual-in_err-walk.ensures.1 in
    let t = c.put_preamble.ensures ∙ ap (λ (t : Lent). with_bytes preamble t) c.new-text.ensures in
    let g = of_gives _ c.of.ensures c.in_ok-accepted.was in
    rw (p.1, p.2)
    (walked_refused _ c.args.document.now _ _ (rw g.1 at c.walk.ensures.text) c.in_err-walk.was g.0
    ∙ ap (λ (n : ℕ). roff n c.args.document.now) (ap (λ (v : Lent). v.size) t))

pub returns-clause-text : goal.returns-clause-text
returns-clause-text c =
    let w = c.walk.new.m in
    let g = of_gives _ c.of.ensures c.in_ok-accepted.was in
    let t = c.put_preamble.ensures ∙ ap (λ (t : Lent). with_bytes preamble t) c.new-text.ensures in
    let l = c.walk.ensures.same.loan in
    let n = c.walk.ensures.same.name ∙ ap (λ (v : Lent). v.name) t in
    let room : _ ≡ c.finish.new.t.0 = search (rules, l, sym l, named w.text.now _ n) in
    let same : _ ≡ seen w.text.now.room.now w.text.now.len = c.finish.ensures.text ∙ search (rules, l, sym l, same_seen w.text.now) in
    ap (λ (x : List ℕ). standing x c.finish.result) room ∙ same
    ∙ walked_given _ c.args.document.now _ _ (rw g.1 at c.walk.ensures.text) c.in_ok-walk.was g.0
    ∙ ap (λ (n : ℕ). roff n c.args.document.now) (ap (λ (v : Lent). v.size) t)
