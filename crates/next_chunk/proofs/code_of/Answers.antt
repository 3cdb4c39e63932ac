use native.Mathlib.Omega.{arith}
use Rattle.next_chunk.proofs.Numbers.{code-none, code-first, code-rest}
use Rattle.next_chunk.proofs.code_of.Goals as goal

pub returns-in-0 : goal.returns-in-0
returns-in-0 c = code-none c.args.ticks c.in-0.is

pub returns-in-1 : goal.returns-in-1
returns-in-1 c = code-first c.args.ticks c.in-1.is

pub returns-in_default : goal.returns-in_default
returns-in_default c = code-rest c.args.ticks (λ e. omega (arith, e)) (λ e. omega (arith, e))
