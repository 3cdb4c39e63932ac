use Rattle.document.proofs.Walks.{check-gives}
use Rattle.document.proofs.Accepted.bytes.Goals as goal

pub returns-clause-short : goal.returns-clause-short
returns-clause-short c = (check-gives (c.self.inside.bytes.now) _ c.self.invariant).0
