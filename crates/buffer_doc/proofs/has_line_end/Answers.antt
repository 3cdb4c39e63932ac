use Rattle.buffer_doc.proofs.Names.{is_line_end, rules}
use Rattle.buffer_doc.proofs.has_line_end.Goals as goal

pub returns : goal.returns
returns c = c.any.ensures is_line_end record { each = λ x r h p. search rules }
