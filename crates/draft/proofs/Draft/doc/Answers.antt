use Rattle.draft.proofs.Names.{adds_doc}
use Rattle.draft.proofs.Draft.doc.Goals as goal

pub returns : goal.returns
unfolding adds_doc
returns c = c.joined.ensures
