use Rattle.runs.proofs.Names.{ℕ, Bool}
use Rattle.base.specs.Tests.{AnswersAs}
use Rattle.runs.proofs.Runs.{Least}
use Rattle.runs.proofs.first_in_block.Given as goal

-- of the 32 bytes, those before the place j were looked at, and k is where the first of them that passes stands, or 32

abbrev pub invariant-loop-j : goal.invariant-loop-j
invariant-loop-j g l = (p : ℕ → Bool) → AnswersAs (goal.F-post g) l.test p → Least p l.block 32 l.j l.k
