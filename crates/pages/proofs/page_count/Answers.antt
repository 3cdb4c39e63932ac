use Rattle.pages.proofs.Names.{sym, ap, ◌∙◌}
use Rattle.base.specs.Result.{gives}
use Rattle.pages.proofs.Paging.{not-allowed, height_in, count_refused, count_rounded}
use Rattle.pages.proofs.page_count.Goals as goal

pub returns-then-not-is_height : goal.returns-then-not-is_height
returns-then-not-is_height c =
    let a = c.args in count_refused a.height a.text.now (not-allowed a.height (sym c.is_height.ensures ∙ c.if-not-is_height.true))

pub returns : goal.returns
returns c =
    let a = c.args in
    let h = height_in a.height (sym c.is_height.ensures ∙ c.if-not-is_height.false) in
    ap gives c.div_ceil.ensures ∙ count_rounded a.height a.text.now c.row_count.result h.0 h.1 c.row_count.ensures
