-- What functions that look for the end of a run promise; no rule of 01 stands here.
use Rattle.std.specs.Prelude.{ℕ, ◌+◌, ◌≤◌, ◌≡◌, Bool, ◌||◌, List, eqb, length, drop}
use Rattle.splitter.specs.Split.{before}

-- a byte is one of four
unfoldable pub among : ℕ → ℕ → ℕ → ℕ → ℕ → Bool
among a b c d x = eqb x a || eqb x b || eqb x c || eqb x d

-- A run from a place on goes on at least up to another: from there on it ends where it ends.
pub record Reached (stop : ℕ → Bool) (s : List ℕ) (at to : ℕ) : Type 0 where
  pub order : at ≤ to
  pub within : to ≤ length s
  pub ends : to + length (before stop (drop to s)) ≡ at + length (before stop (drop at s))
