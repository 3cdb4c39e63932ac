use Rattle.utf8.proofs.Names.{◌∙◌, sym, not, continues}
use Rattle.utf8.proofs.Laws.{characters_counted}
use Rattle.utf8.proofs.count.Goals as goal

pub returns : goal.returns
returns c = c.count.ensures (λ b. not (continues b)) record { each = λ x r h p. p } ∙ sym (characters_counted _)
