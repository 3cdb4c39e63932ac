use Rattle.base.proofs.Names.{ℕ, ◌≡◌, Bool, take}
use Rattle.std.specs.List.{list_any}
use Rattle.base.specs.Tests.{AnswersAs}
use Rattle.base.proofs.any.Given as goal

-- the bytes so far

abbrev pub invariant-loop-b : goal.invariant-loop-b
invariant-loop-b g l = (p : ℕ → Bool) → AnswersAs (goal.F-post g) l.test p → l.found ≡ list_any p (take l.b-index l.s)
