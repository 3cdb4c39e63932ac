use Rattle.draft.proofs.Names.{sym, ◌∙◌, eq-eqb, ne_eqb, if_true, if_false}
use Rattle.draft.proofs.Draft.text_at.Goals as goal

pub returns-then-self-number : goal.returns-then-self-number
returns-then-self-number c = sym (if_true _ _ (eq-eqb _ _ (c.if-self-number.true ∙ c.number.ensures)))

pub returns : goal.returns
returns c = sym (if_false _ _ (ne_eqb _ _ (λ e. c.if-self-number.false (e ∙ sym c.number.ensures))))
