-- What the programs read and write, where the bytes of the reader and the writer are known.
use Rattle.std.specs.Prelude.{ℕ, ◌<◌, ◌≤◌, List, ◌++◌, length, take, Option, codes, decimal}
use Rattle.std.specs.Io.KnownBytes.{Consumes, IsAtEnd}
use Rattle.refusal.specs.declared.Refusal.{Refusal}
use Rattle.refusal.specs.Numbers.{refusal_number, refusal_place}

-- The n bytes that were read stand at the start of the buffer, as the input had them, and they are all that the input has unless the buffer
-- is full.
abbrev pub ReadsInput : Option (List ℕ) → Option (List ℕ) → List ℕ → ℕ → Type 0
ReadsInput old new buffer n = (n ≤ length buffer) × Consumes old new (take n buffer) × (n < length buffer → IsAtEnd new)

-- `refused 6 at 0` and a line end: the number, then the place
abbrev pub refusal_line : Refusal → List ℕ
refusal_line a = codes "refused " ++ (decimal (refusal_number a) ++ (codes " at " ++ (decimal (refusal_place a) ++ codes "\n")))
