-- What the functions inside this crate promise each other; no rule of 02 stands here.
use Rattle.std.specs.Prelude.{ℕ, ◌+◌, ◌≤◌, ◌≡◌, Bool, List, length, take, drop}
use Rattle.notes_rules.specs.Without.{text_left}

-- the text that stands first has r bytes
pub record Ends (s : List ℕ) (one : Bool) (r : ℕ) : Type 0 where
  pub inside : r ≤ length s
  pub is : take r s ≡ text_left one s

-- what stands behind it and its line feed
abbrev pub behind : Bool → List ℕ → List ℕ
behind one s = drop (length (text_left one s) + 1) s
