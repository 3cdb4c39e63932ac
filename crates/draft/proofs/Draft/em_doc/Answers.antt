use Rattle.draft.proofs.Names.{adds_em_doc}
use Rattle.draft.proofs.Draft.em_doc.Goals as goal

pub returns : goal.returns
unfolding adds_em_doc
returns c = c.joined.ensures
