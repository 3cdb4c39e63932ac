use Rattle.buffer_doc.proofs.Names.{adds_doc}
use Rattle.buffer_doc.proofs.doc.Goals as goal

pub returns : goal.returns
unfolding adds_doc
returns c = c.joined.ensures
