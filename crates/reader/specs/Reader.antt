-- Reading bytes back from the left. A reading is given by what a byte tells, and where the reading stands after it; both go by where it stood before.
use Rattle.std.specs.Prelude.{ℕ, List, [], ◌∷◌, ◌++◌}

module _ {At : Type 0} (says : At → ℕ → List ℕ) (next : At → ℕ → At) where
  -- the text that some bytes tell
  unfoldable pub read : At → List ℕ → List ℕ
  read at [] = []
  read at (b ∷ s) = says at b ++ read (next at b) s

  -- where the reading stands after them
  unfoldable pub after : At → List ℕ → At
  after at [] = at
  after at (b ∷ s) = after (next at b) s
