use Rattle.roff_escape.proofs.Names.{◌-◌, arith, length}
use Rattle.roff_escape.proofs.Escaping.{line-none, line-last}
use Rattle.roff_escape.proofs.monoid.ends_line.Goals as goal

pub returns-in-Some : goal.returns-in-Some
returns-in-Some c =
    let a = c.args in
    let last = c.in-Some.ensures.item.3 in
    rw (last.1 0) (line-last a.start (a.bytes.now) (length (a.bytes.now) - 1) (omega (arith, last.0)))

pub returns-in-None : goal.returns-in-None
returns-in-None c = line-none _ _ (omega (arith, c.in-None.ensures.item.3))
