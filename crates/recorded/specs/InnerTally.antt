-- What is counted of a list of cases. No rule of 01 stands here.
use Rattle.std.specs.Prelude.{◌≡◌, ℕ, ◌+◌, ◌-◌, ◌^◌, min, Bool, List, Option, None, Some, replicate}
use Rattle.std.specs.List.{FoldsTo}
use Rattle.base.specs.Choice.{when◌then◌else◌}
use Rattle.recorded.specs.InnerCases.{counted}
use Rattle.recorded.specs.Spoken.{ReadsList}
use Rattle.recorded.specs.declared.TheConstants.{CALLS}
use Rattle.recorded.specs.declared.tally.Tally.{Tally}
use Rattle.recorded.specs.declared.tally.Differences.{Differences}

abbrev pub nothing_run : Tally
nothing_run = record { counts = replicate CALLS 0; cases = 0; differences = None }

-- one more differs: the first that does is kept
abbrev pub differed : ℕ → Option Differences → Differences
differed n None = record { count = 1; first = n }
differed n (Some d) = record { count = min (d.count + 1) (2 ^ 64 - 1); first = d.first }

-- one case more, and whether its call answered as it says
unfoldable pub tallied : Tally → List ℕ → Bool → Tally
tallied t case same =
    let n = min (t.cases + 1) (2 ^ 64 - 1) in
    record { counts = counted t.counts case; cases = n; differences = when same then t.differences else Some (differed n t.differences) }

-- the cases of a list, one after the other, where a call on one of them may answer as `Answers` says
abbrev pub Tallies : (List ℕ → Bool → Type 0) → Tally → List (List ℕ) → Tally → Type 0
Tallies Answers t cases u = FoldsTo (λ t case u. (same : Bool) × Answers case same × (u ≡ tallied t case same)) t cases u

-- the cases of a list were read, and counted
abbrev pub Replays : Option (List ℕ) → Option (List ℕ) → (List ℕ → Bool → Type 0) → Tally → Type 0
Replays old new Answers t = (cases : List (List ℕ)) × ReadsList old new cases × Tallies Answers nothing_run cases t
