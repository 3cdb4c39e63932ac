-- A stack of numbers, its top last: open blocks, and margins.
use Rattle.std.specs.Prelude.{ℕ, ◌-◌, List, [], ◌∷◌, ◌++◌, length, get_or, take}

-- the top; that of the empty stack counts as 0
unfoldable pub top : List ℕ → ℕ
top xs = get_or xs (length xs - 1) 0

unfoldable pub pushed : ℕ → List ℕ → List ℕ
pushed x xs = xs ++ x ∷ []

-- without the top, if there is one
unfoldable pub popped : List ℕ → List ℕ
popped xs = take (length xs - 1) xs
