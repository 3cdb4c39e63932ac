use Rattle.std.proofs.Common.{◌≡◌}
use Rattle.std.specs.Fn.{FnReturnsAt}
use Rattle.recorded.proofs.Running.{Runs}
use Rattle.recorded.proofs.tally.replay_all.Given as goal

-- The cases so far were read and counted.
abbrev pub invariant-cases : goal.invariant-cases
invariant-cases g l =
    Runs (FnReturnsAt g.F.Fn l.agrees) (g.R.Read.remaining l.initial.reader) (g.R.Read.remaining l.reader) l.tally × (l.tally.cases ≡ l.counter)
