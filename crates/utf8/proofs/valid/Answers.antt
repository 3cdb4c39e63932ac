use Rattle.utf8.proofs.Neighbours.{ascii_all}
use Rattle.utf8.proofs.valid.Goals as goal

pub returns-then-i-s : goal.returns-then-i-s
returns-then-i-s c =
    ascii_all c.args.s.now c.past_ascii-i.result c.past_ascii-i.ensures c.if-i-s.true
