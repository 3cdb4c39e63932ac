use Rattle.roff_escape.proofs.Names.{sym, ◌∙◌}
use Rattle.roff_escape.proofs.Escaping.{laid_same, escaped_byte}
use Rattle.roff_escape.proofs.Composing.{payload_same}
use Rattle.roff_escape.proofs.roff.Roff.put_byte.Goals as goal

pub returns : goal.returns
returns c = payload_same _ _ (laid_same c.put_byte.ensures c.starts_line-self.ensures ∙ sym (escaped_byte c.args.mode _ c.args.c))
