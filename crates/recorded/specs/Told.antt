-- What is written of a list that was run, where the bytes of the writer are known.
use Rattle.std.specs.Prelude.{ℕ, List, Option}
use Rattle.std.specs.Borrow.{Bor}
use Rattle.std.specs.Io.KnownBytes.{Appends}
use Rattle.recorded.specs.Spoken.{tally_line, faulty_line}
use Rattle.recorded.specs.declared.operation.Operation.{Operation}
use Rattle.recorded.specs.declared.tally.Tally.{Tally}

-- the line with the counts that are so, or that the list is faulty
pub data Told (Counted : Tally → Type 0) (names : List (Operation × Bor (List ℕ))) (old new : Option (List ℕ)) : Type 0 where
  counts : (t : Tally) → Counted t → Appends old new (tally_line names t) → Told Counted names old new
  faulty : Appends old new faulty_line → Told Counted names old new
