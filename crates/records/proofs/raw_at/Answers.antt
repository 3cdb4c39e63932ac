use Rattle.records.proofs.Names.{ap, sym, ◌+◌, arith, kind_of, size}
use Rattle.records.proofs.Reading.{little-none, read-past-raw, read_short, read-cut, read_whole}
use Rattle.records.proofs.raw_at.Goals as goal

pub returns-then-length-at-clause-read : goal.returns-then-length-at-clause-read
returns-then-length-at-clause-read c = let a = c.args in read-past-raw (a.document.now) a.at c.if-length-at.true

pub returns-then-length-at-clause-code : goal.returns-then-length-at-clause-code
returns-then-length-at-clause-code c = let a = c.args in sym (little-none (a.document.now) (a.at + 4) (omega arith))

pub returns-then-length-at-lt6-clause-read : goal.returns-then-length-at-lt6-clause-read
returns-then-length-at-lt6-clause-read c =
    let a = c.args in
    read_short (a.document.now) a.at _ c.if-length-at.false (ap kind_of c.two-code.ensures.0) (omega arith)

pub returns-then-length-start-clause-read : goal.returns-then-length-start-clause-read
unfolding size
returns-then-length-start-clause-read c =
    let k = ap kind_of c.whole_two-code.ensures.0 in
    let a = c.args in
    read-cut (a.document.now) a.at _ c.if-length-at.false k _ c.whole_four-size.ensures.0 (omega arith) (omega arith)

pub returns-clause-read : goal.returns-clause-read
unfolding size
returns-clause-read c =
    let k = ap kind_of c.whole_two-code.ensures.0 in
    let a = c.args in
    read_whole (a.document.now) a.at _ c.if-length-at.false k _ c.whole_four-size.ensures.0 (omega arith) (omega arith)
