use Rattle.base.proofs.Names.{ℕ, ◌≡◌, ◌≤◌, Bool, take}
use Rattle.std.specs.List.{count_by}
use Rattle.base.specs.Tests.{AnswersAs}
use Rattle.base.proofs.few.Given as goal

-- the bytes so far

abbrev pub invariant-loop-b : goal.invariant-loop-b
invariant-loop-b g l = (l.n ≤ l.b-index) × ((p : ℕ → Bool) → AnswersAs (goal.F-post g) l.test p → l.n ≡ count_by p (take l.b-index l.first))
