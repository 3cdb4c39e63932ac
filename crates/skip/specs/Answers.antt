-- The skip counter as the code holds it.
use Rattle.std.specs.Prelude.{ℕ, ◌^◌, ltb}
use Rattle.base.specs.Choice.{when◌then◌else◌}

-- A number of 64 bits holds the rules' number where that fits, and stays as it was where it does not. In a walk it fits: at most one is
-- added for each record, and a document has at most 32,768 bytes.
unfoldable pub new_if_fits : ℕ → ℕ → ℕ
new_if_fits old new = when ltb new (2 ^ 64) then new else old
