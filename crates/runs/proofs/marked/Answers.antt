use Rattle.runs.proofs.Names.{◌≡◌, ◌+◌, ◌-◌, arith, rules, among}
use Rattle.runs.proofs.marked.Goals as goal

pub returns : goal.returns
returns c =
    let a = c.args in
    let e : a.at + 16 - a.at ≡ 16 = omega arith in
    rw e at (c.any.ensures (among a.a a.b a.c a.d) record { each = λ x r h p. search rules })
