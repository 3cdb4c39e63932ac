use Rattle.buffer_doc.proofs.Names.{adds_em_doc}
use Rattle.buffer_doc.proofs.em_doc.Goals as goal

pub returns : goal.returns
unfolding adds_em_doc
returns c = c.joined.ensures
