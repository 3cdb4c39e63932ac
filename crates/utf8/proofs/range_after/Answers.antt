use Rattle.utf8.proofs.Names.{arith, ne_eqb, when◌then◌else◌, low, high}
use Rattle.utf8.proofs.range_after.Goals as goal

pub returns-in-224 : goal.returns-in-224
unfolding low high when◌then◌else◌
returns-in-224 c = rw c.in-224.is

pub returns-in-237 : goal.returns-in-237
unfolding low high when◌then◌else◌
returns-in-237 c = rw c.in-237.is

pub returns-in-240 : goal.returns-in-240
unfolding low high when◌then◌else◌
returns-in-240 c = rw c.in-240.is

pub returns-in-244 : goal.returns-in-244
unfolding low high when◌then◌else◌
returns-in-244 c = rw c.in-244.is

pub returns-in_default : goal.returns-in_default
unfolding low high when◌then◌else◌
returns-in_default c =
    let p = c.args.p in
    rw (ne_eqb p 0xE0 (λ e. omega arith), ne_eqb p 0xF0 (λ e. omega arith), ne_eqb p 0xED (λ e. omega arith), ne_eqb p 0xF4 (λ e. omega arith))
