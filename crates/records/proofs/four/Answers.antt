use Rattle.records.proofs.Names.{sym, ◌+◌, arith}
use Rattle.records.proofs.Reading.{little-none, little-four}
use Rattle.records.proofs.four.Goals as goal

pub returns-then-bytes-at : goal.returns-then-bytes-at
returns-then-bytes-at c =
    let s = c.args.bytes.now in
    let at = c.args.at in
    (little-four s at 0 0 (sym (little-none s at (omega arith))) (sym (little-none s (at + 2) (omega arith))), omega arith)

pub returns : goal.returns
returns c =
    let a = c.args in
    (little-four (a.bytes.now) a.at _ _ c.two.ensures.0 c.two-2.ensures.0, omega (arith, c.two.ensures, c.two-2.ensures))
