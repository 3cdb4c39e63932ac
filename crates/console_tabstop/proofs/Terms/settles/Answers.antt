use Rattle.console_tabstop.proofs.Names.{sym, ap, ◌∙◌, Bool, ◌&&◌, eqb, is_end, end-by-code, no-end-code}
use borrow.Author.Tests.{ne_eqb}
use Rattle.records.specs.declared.Block.TheVariants as block
use Rattle.console_tabstop.proofs.Terms.settles.Goals as goal

pub returns-then-code-eq-TERM_END : goal.returns-then-code-eq-TERM_END
returns-then-code-eq-TERM_END c =
    let a = c.args in
    ap (λ (b : Bool). b && eqb a.self.now.counted 24) (sym (ap (is_end 4) (end-by-code a.code block.ItemTerm c.if-code-eq-TERM_END.true)))

pub returns-else-code-eq-TERM_END : goal.returns-else-code-eq-TERM_END
returns-else-code-eq-TERM_END c =
    let a = c.args in
    ne_eqb _ _ c.if-code-eq-TERM_END.false ∙ ap (λ (b : Bool). b && eqb a.self.now.counted 24) (sym (no-end-code a.code 4 c.if-code-eq-TERM_END.false))
