-- What the C interface says of two lists that are merged.
use Rattle.std.specs.Prelude.{ℕ, ◌≡◌, List, length}
use Rattle.base.specs.Result.{Result, measured}
use Rattle.renderer.specs.Rendered.{filled}
use Rattle.merge_rules.specs.Merge.{TheMerge}
use Rattle.sefgrunn.specs.Numbers.{number_of, length_or_place}

-- What is returned and stored, and what the room then holds, are those of the rules' list or refusal.
pub record MergeTold (room s t : List ℕ) (number at : ℕ) (new : List ℕ) : Type 0 where
  pub result : Result (List ℕ)
  pub merges : TheMerge room s t result
  pub returned : number ≡ number_of result
  pub stored : at ≡ length_or_place (measured result)
  pub leaves : new ≡ filled (length room) result
