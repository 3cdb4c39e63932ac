use Rattle.draft.proofs.Names.{refl, sym, ◌∙◌}
use Rattle.draft.proofs.Draft.settled.Goals as goal

pub returns-then-plausible-clause-does : goal.returns-then-plausible-clause-does
returns-then-plausible-clause-does c = λ s. (refl, s (sym c.plausible.ensures ∙ c.if-plausible.true))
