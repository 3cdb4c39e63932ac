use Rattle.utf8.proofs.Names.{◌∙◌, sym}
use Rattle.utf8.proofs.Neighbours.{ascii_sound}
use Rattle.utf8.proofs.wide.Goals as goal

pub returns-then-from-ge3 : goal.returns-then-from-ge3
returns-then-from-ge3 c = c.blocks-then-from-ge3.ensures ∙ sym (ascii_sound c.args.s.now c.args.from c.requires.1 c.if-from-ge3.true)
