-- What the merge answers, and what its room then holds, seen as the rules' list or refusal.
use Rattle.std.specs.Prelude.{ℕ, ◌≡◌, List, length, Result as Returned}
use Rattle.base.specs.Result.{Result, measured}
use Rattle.refusal.specs.Answers.{answered}
use Rattle.refusal.specs.declared.Refusal.{Refusal}
use Rattle.renderer.specs.Rendered.{filled}
use Rattle.merge_rules.specs.Merge.{TheMerge}

-- the list's length or the refusal is answered; the room holds the list, 'is 0 beyond what was written, and all 0 after a refusal'
pub record Answer (room s t : List ℕ) (r : Returned ℕ Refusal) (new : List ℕ) : Type 0 where
  pub result : Result (List ℕ)
  pub merges : TheMerge room s t result
  pub answer : answered r ≡ measured result
  pub leaves : new ≡ filled (length room) result
