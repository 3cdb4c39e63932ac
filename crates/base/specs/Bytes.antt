-- Bytes out of others, at their start, and at their end.
use Rattle.std.specs.Prelude.{ℕ, ◌+◌, ◌-◌, Bool, true, false, ◌&&◌, List, [], ◌∷◌, ◌++◌, leb, eqb, length, take, drop}
use Rattle.base.specs.Choice.{when◌then◌else◌}

-- the bytes from a place up to another
abbrev pub part : List ℕ → ℕ → ℕ → List ℕ
part s a e = take (e - a) (drop a s)

-- a room with some bytes from a place on in place of its own
abbrev pub pasted : List ℕ → ℕ → List ℕ → List ℕ
pasted room at x = take at room ++ x ++ drop (at + length x) room

-- the same, where the room holds them; else the room as it was
unfoldable pub overwritten : List ℕ → ℕ → List ℕ → List ℕ
overwritten room at x = when leb (at + length x) (length room) then pasted room at x else room

-- s starts with some bytes
unfoldable pub starts_with : List ℕ → List ℕ → Bool
starts_with [] s = true
starts_with (x ∷ xs) [] = false
starts_with (x ∷ xs) (b ∷ s) = eqb b x && starts_with xs s

-- s ends with some bytes
unfoldable pub ends_with : List ℕ → List ℕ → Bool
ends_with x s = leb (length x) (length s) && starts_with x (drop (length s - length x) s)
