use Rattle.pages.proofs.Names.{◌∙◌, sym, ap, arith}
use Rattle.std.specs.Option.{option_copied}
use Rattle.pages.proofs.Rows.{rows_few, rows_count, feed-yes, feed-no, last_byte, last-none}
use Rattle.pages.proofs.row_count.Goals as goal

pub returns-in_default : goal.returns-in_default
returns-in_default c =
    let s = c.args.s.now in
    omega (arith, rows_few s, last-none s (sym c.last.ensures.value ∙ ap option_copied c.in_default.is))

pub returns-then-last-eq10 : goal.returns-then-last-eq10
returns-then-last-eq10 c =
    let s = c.args.s.now in
    let b = last_byte s _ (sym c.last.ensures.value ∙ ap option_copied c.in-Some.is) in
    omega (arith, b, rows_count s b.0, feed-yes _ (b.1 ∙ c.if-last-eq10.true), c.line_feeds-n.ensures)

pub overflow_add-result : goal.overflow_add-result
overflow_add-result c =
    let s = c.args.s.now in
    let b = last_byte s _ (sym c.last.ensures.value ∙ ap option_copied c.in-Some.is) in
    omega (arith, rows_count s b.0, rows_few s, feed-no _ (λ e. c.if-last-eq10.false (sym b.1 ∙ e)), c.line_feeds-n.ensures)

pub returns : goal.returns
returns c =
    let s = c.args.s.now in
    let b = last_byte s _ (sym c.last.ensures.value ∙ ap option_copied c.in-Some.is) in
    omega (arith, rows_count s b.0, feed-no _ (λ e. c.if-last-eq10.false (sym b.1 ∙ e)), c.line_feeds-n.ensures)
