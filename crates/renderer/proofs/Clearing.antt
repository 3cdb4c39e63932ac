-- What a cleared room holds after an answer. Assumes nothing.
use Rattle.renderer.proofs.Names.{ℕ, ◌≡◌, sym, ap, ◌∙◌, List, length, take, Result, gives, measured, padded, padded-none, Answer, Ok, Err}
use Rattle.std.specs.Result.{result_unwrap_or}
use lib.Seq.{length-take-le}
use Rattle.refusal.specs.declared.Refusal.{Refusal}
use Rattle.renderer.specs.Rendered.{standing, Inside, filled}
use Rattle.refusal.specs.Answers.{answered}

pub cleared : (old new : List ℕ) (answer : Answer ℕ Refusal) → new ≡ padded (length old) (take (result_unwrap_or answer 0) old)
    → new ≡ filled (length old) (standing old answer)
cleared old new (Ok n) e = e
cleared old new (Err a) e = e ∙ padded-none (length old)

-- an answer whose text lies in the room tells the text's length
pub standing-measured : (room : List ℕ) (answer : Answer ℕ Refusal) (r : Result (List ℕ)) → standing room answer ≡ r → Inside (length room) answer
    → answered answer ≡ measured r
standing-measured room (Ok n) r e h = rw (← e) (ap gives (sym (length-take-le n room h)))
standing-measured room (Err a) r e h = rw (← e)
