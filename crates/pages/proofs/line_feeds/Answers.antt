use Rattle.pages.proofs.Names.{◌∙◌, sym, eqb}
use Rattle.pages.proofs.Rows.{feeds_counted}
use Rattle.pages.proofs.line_feeds.Goals as goal

pub returns : goal.returns
returns c = c.count.ensures (λ b. eqb b 0x0A) record { each = λ x r h p. p } ∙ sym (feeds_counted _)
