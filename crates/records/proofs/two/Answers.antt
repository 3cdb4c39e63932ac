use Rattle.records.proofs.Names.{sym, ◌∙◌, arith}
use Rattle.records.proofs.Reading.{little-none, little-one}
use Rattle.records.proofs.two.Goals as goal

pub returns-then-bytes-at : goal.returns-then-bytes-at
returns-then-bytes-at c = let a = c.args in (sym (little-none (a.bytes.now) a.at (omega arith)), omega arith)

pub returns-then-bytes-at-lt2 : goal.returns-then-bytes-at-lt2
returns-then-bytes-at-lt2 c =
    let a = c.args in
    (c.from.ensures ∙ sym (little-one (a.bytes.now) a.at (omega arith)), omega arith)
