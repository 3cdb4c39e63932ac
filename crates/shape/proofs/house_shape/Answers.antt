use Rattle.shape.proofs.Names.{[], rules, gives}
use Rattle.document.proofs.Walks.{verdict_gives}
use Rattle.shape.proofs.Laws.{the_answer}
use Rattle.shape.proofs.Accepted.{check_balanced, found}
use Rattle.shape.proofs.house_shape.Goals as goal

-- the document was accepted
pub parts-requires : goal.parts-requires
parts-requires c = rw c.of.ensures (check_balanced _ [] (verdict_gives [] c.check.ensures c.in_ok-check.was))

pub returns : goal.returns
returns c =
    let a = verdict_gives [] c.check.ensures c.in_ok-check.was in
    the_answer _ (gives _) (found _ a _ _ (rw c.of.ensures at c.parts.ensures) c.err.ensures.value _ c.map.ensures.cases (λ o p h. search rules))
