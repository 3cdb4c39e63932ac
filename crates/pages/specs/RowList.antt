-- Rows said without a pass over the bytes. What `rows` gives is such a list, and the only one that joins to the text (the laws `rows_are` and
-- `rows-only`).
use Rattle.std.specs.Prelude.{ℕ, ◌+◌, ◌≤◌, ◌≡◌, List, [], ◌∷◌, ◌++◌, eqb, length}
use Rattle.base.specs.Choice.{when◌then◌else◌}

-- how many line feeds a byte is
unfoldable pub feed : ℕ → ℕ
feed b = when eqb b 0x0A then 1 else 0

-- how many line feeds a text has
unfoldable pub feeds : List ℕ → ℕ
feeds [] = 0
feeds (b ∷ s) = feed b + feeds s

-- 'rows end at a line feed', and have no other; 'a non-empty rest is a row', and has none
pub data RowList : List (List ℕ) → Type 0 where
  none : RowList []
  rest : {r : List ℕ} → feeds r ≡ 0 → 1 ≤ length r → RowList (r ∷ [])
  line : (r : List ℕ) {x : List ℕ} {rs : List (List ℕ)} → feeds r ≡ 0 → x ≡ r ++ 0x0A ∷ [] → RowList rs → RowList (x ∷ rs)
