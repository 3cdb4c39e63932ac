-- The cases of a list that were run so far.
use Rattle.std.proofs.Common.{◌≡◌, ℕ, ◌+◌, ◌<◌, Bool, List, [], ◌∷◌, ◌++◌, Option, Some, length, take, refl, sym, ◌∙◌, arith, length-append, length-take-le}
use Rattle.std.proofs.lemmas.Fn.{FoldsTo-push}
use Rattle.std.specs.List.{FoldsTo}
use Rattle.recorded.specs.InnerTally.{nothing_run, tallied, Tallies}
use Rattle.recorded.specs.Spoken.{ReadsCase, ReadsThis}
use Rattle.recorded.specs.declared.tally.Tally.{Tally}

-- they were read, from `first` on, and counted
abbrev pub Runs : (List ℕ → Bool → Type 0) → Option (List ℕ) → Option (List ℕ) → Tally → Type 0
Runs Answers first last t =
    (cases : List (List ℕ)) × FoldsTo ReadsThis first cases last × Tallies Answers nothing_run cases t × (t.cases ≡ length cases)

-- the case that was read into a buffer
pub read_this : (old new : Option (List ℕ)) (buffer : List ℕ) (n : ℕ) → ReadsCase old new buffer (Some n) → ReadsThis old (take n buffer) new
read_this old new buffer n h = (h.0, h.1 ∙ sym (length-take-le n buffer h.3), h.2, h.4)

-- one case more counts as one
pub tallied-cases : (t : Tally) (case : List ℕ) (same : Bool) → t.cases < 1_000_000 → (tallied t case same).cases ≡ t.cases + 1
unfolding tallied
tallied-cases t case same h = omega arith

-- .. and was run
pub runs_more : (Answers : List ℕ → Bool → Type 0) (first last next : Option (List ℕ)) (t : Tally) (case : List ℕ) (same : Bool) → Runs Answers first last t
    → t.cases < 1_000_000 → ReadsThis last case next → Answers case same → Runs Answers first next (tallied t case same)
runs_more Answers first last next t case same h below read said =
    let more = tallied-cases t case same below in
    let cases = h.0 in (
      cases ++ (case ∷ []),
      FoldsTo-push ReadsThis first cases last case next h.1 read,
      FoldsTo-push (λ t case u. (same : Bool) × Answers case same × (u ≡ tallied t case same)) nothing_run cases t case (tallied t case same) h.2
          (same, said, refl),
      omega (arith, more, h.3, length-append cases (case ∷ [])),
    )
