use Rattle.notes.proofs.Names.{item_mark, arith, sym}
use Rattle.base.proofs.Prefix.{starts-short}
use Rattle.notes.proofs.Scans.{two_start, two_not}
use Rattle.notes.proofs.is_item.Goals as goal

pub returns-in-45 : goal.returns-in-45
returns-in-45 c = two_start 0x2D 0x20 c.args.s.now (omega arith) (omega arith) (omega arith)

pub returns-in_default : goal.returns-in_default
returns-in_default c = sym (starts-short item_mark c.args.s.now (omega arith))

pub returns-in_default-2 : goal.returns-in_default-2
returns-in_default-2 c = two_not 0x2D 0x20 c.args.s.now (λ p q. omega arith)

pub returns-in_default-3 : goal.returns-in_default-3
returns-in_default-3 c = two_not 0x2D 0x20 c.args.s.now (λ p q. omega arith)
