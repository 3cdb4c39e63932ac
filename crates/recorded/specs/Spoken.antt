-- What is read of a list and written of it, where the bytes of the reader and the writer are known.
use Rattle.std.specs.Prelude.{ℕ, ◌<◌, ◌≤◌, ◌≡◌, List, [], ◌++◌, length, take, get_or, Option, None, Some, codes, decimal}
use Rattle.std.specs.Borrow.{Bor}
use Rattle.std.specs.List.{FoldsTo, flat_map}
use Rattle.std.specs.Io.KnownBytes.{Consumes, IsAtEnd}
use Rattle.recorded.specs.InnerCases.{number_in, number_size, number_of}
use Rattle.recorded.specs.declared.operation.Operation.{Operation}
use Rattle.recorded.specs.declared.tally.Differences.{Differences}
use Rattle.recorded.specs.declared.tally.Tally.{Tally}

-- The input had the length of a case, a number, and then the case, which stands at the start of the buffer; or it had ended.
abbrev pub ReadsCase : Option (List ℕ) → Option (List ℕ) → List ℕ → Option ℕ → Type 0
ReadsCase old new buffer (Some n) =
    (number : List ℕ) × (number_in number ≡ n) × (number_size number ≡ length number) × (n ≤ length buffer)
    × Consumes old new (number ++ take n buffer)
ReadsCase old new buffer None = Consumes old new [] × IsAtEnd new

-- The input had the length of this case, a number, and then the case.
abbrev pub ReadsThis : Option (List ℕ) → List ℕ → Option (List ℕ) → Type 0
ReadsThis old case new =
    (number : List ℕ) × (number_in number ≡ length case) × (number_size number ≡ length number) × Consumes old new (number ++ case)

-- The input had these cases, one after the other, and they are all that it had unless they are 1,000,000.
abbrev pub ReadsList : Option (List ℕ) → Option (List ℕ) → List (List ℕ) → Type 0
ReadsList old new cases =
    (last : Option (List ℕ)) × FoldsTo ReadsThis old cases last × Consumes last new [] × (length cases < 1_000_000 → IsAtEnd new)

-- `differences 0` and a line end, or `differences 2, the first is case 5` and a line end
abbrev pub differences_line : Option Differences → List ℕ
differences_line None = codes "differences 0\n"
differences_line (Some d) = codes "differences " ++ (decimal d.count ++ (codes ", the first is case " ++ (decimal d.first ++ codes "\n")))

-- a name, and how many calls there were of what it stands for
abbrev pub count_text : List ℕ → Operation × Bor (List ℕ) → List ℕ
count_text counts name = name.1.now ++ decimal (get_or counts (number_of name.0) 0)

-- .. for each of some names, then `; ` and the differences
abbrev pub tally_line : List (Operation × Bor (List ℕ)) → Tally → List ℕ
tally_line names t = flat_map (count_text t.counts) names ++ (codes "; " ++ differences_line t.differences)

abbrev pub faulty_line : List ℕ
faulty_line = codes "the list is faulty\n"
