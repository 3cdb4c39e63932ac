-- A test of a byte that is passed on, as a function of the rules.
use Rattle.std.specs.Prelude.{ℕ, Bool, ◌<◌, ◌≡◌}

-- what a call of f may answer, by `post`, is what p says of the byte
pub record AnswersAs {F : Type 0} (post : F → ℕ → Bool → Type 0) (f : F) (p : ℕ → Bool) : Type 0 where
  pub each : (x : ℕ) (r : Bool) → x < 256 → post f x r → r ≡ p x
