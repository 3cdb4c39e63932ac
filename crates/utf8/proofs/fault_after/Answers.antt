use Rattle.utf8.proofs.Names.{◌≡◌, refl, ◌∙◌, ap, sym, not, false, ◌&&◌, low, high}
use Rattle.base.specs.Choice.{among}
use Rattle.utf8.proofs.Laws.{not_none, not_some}
use Rattle.utf8.proofs.Neighbours.{follows_start, follows_first}
use Rattle.utf8.proofs.fault_after.Goals as goal

pub returns-then-p-lt192 : goal.returns-then-p-lt192
returns-then-p-lt192 c = ap not (c.starts_character.ensures ∙ sym (follows_start c.args.p c.args.b c.if-p-lt192.true))

pub returns-then-outside : goal.returns-then-outside
returns-then-outside c =
    let none = not_none _ (sym c.outside.ensures ∙ c.if-outside.true) in
    let not-first : (among 0xC2 0xF4 c.args.p && among (low c.args.p) (high c.args.p) c.args.b) ≡ false = rw none refl in
    c.if-outside.true ∙ sym (ap not (follows_first c.args.p c.args.b c.if-p-lt192.false ∙ not-first))

pub returns-else-outside : goal.returns-else-outside
returns-else-outside c =
    let some = not_some _ (sym c.outside.ensures ∙ c.if-outside.false) in
    let r = rw c.range_after-lo.ensures at c.outside-else-outside.ensures in
    let in-range : (among 0xC2 0xF4 c.args.p && among (low c.args.p) (high c.args.p) c.args.b) ≡ among (low c.args.p) (high c.args.p) c.args.b = rw some refl in
    r ∙ sym (ap not (follows_first c.args.p c.args.b c.if-p-lt192.false ∙ in-range))
