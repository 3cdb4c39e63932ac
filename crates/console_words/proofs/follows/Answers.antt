use borrow.Author.Rules.{rules}
use Rattle.console_chunks.specs.InnerShown.{text_in}
use Rattle.console_words.proofs.Advance.{some_there, ready_if}
use Rattle.console_words.proofs.follows.Goals as goal

pub returns-then-eq : goal.returns-then-eq
returns-then-eq c =
    let p = c.args.page.now in
    ready_if p c.args.margin.0 c.args.code
    (some_there (text_in p) c.is_empty.result c.is_empty.ensures c.if-is_empty.false (c.is_full.ensures.given c.if-is_full.false))
    c.if-page.false c.if-page-2.false c.if-page-3.false (search rules)
