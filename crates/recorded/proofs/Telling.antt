-- What is written of a list that was run. Assumes nothing.
use Rattle.std.proofs.Common.{◌≡◌, ℕ, List, Option, ap, refl, true≢false}
use Rattle.std.specs.Prelude.{Result, Ok, Err, OnOk, IfOk, is_ok}
use Rattle.std.specs.Borrow.{Bor}
use Rattle.std.specs.Io.KnownBytes.{Appends}
use Rattle.std.specs.declared.io.Error.{Error}
use Rattle.recorded.specs.Spoken.{tally_line, faulty_line}
use Rattle.recorded.specs.Told.{Told}
use Rattle.recorded.specs.declared.input.ListError.{ListError}
use Rattle.recorded.specs.declared.input.ListError.TheVariants as fault
use Rattle.recorded.specs.declared.operation.Operation.{Operation}
use Rattle.recorded.specs.declared.tally.Tally.{Tally}

pub told_by : (Counted : Tally → Type 0) (names : List (Operation × Bor (List ℕ))) (old new : Option (List ℕ)) (replayed : Result Tally ListError)
    (r : Result (Unit {0}) Error) → IfOk replayed Counted → IfOk replayed (λ t. OnOk r (Appends old new (tally_line names t)))
    → (replayed ≡ Err fault.Faulty → OnOk r (Appends old new faulty_line)) → ((e : Error) → replayed ≡ Err (fault.Io e) → r ≡ Err e)
    → OnOk r (Told Counted names old new)
told_by Counted names old new replayed (Err x) h l f e = tt
told_by Counted names old new (Ok t) (Ok u) h l f e = Told.counts t h l
told_by Counted names old new (Err fault.Faulty) (Ok u) h l f e = Told.faulty (f refl)
told_by Counted names old new (Err (fault.Io x)) (Ok u) h l f e = absurd (true≢false (ap is_ok (e x refl)))
