-- What the check answers, seen as the rules' result.
use Rattle.std.specs.Prelude.{ℕ, ◌≡◌, ◌≤◌, List, map, take, Result as Answer, Ok, Err}
use Rattle.base.specs.Result.{Result, gives, refused, ◌>>=◌}
use Rattle.records.specs.Records.{index}
use Rattle.records.specs.declared.Block.{Block}
use Rattle.document.specs.Document.{check, max_open}
use Rattle.refusal.specs.declared.Refusal.{Refusal}
use Rattle.refusal.specs.Numbers.{refusal_place, refusal_number}

module _ {A : Type 0} where
  -- a verdict on what was read: that, or the refusal
  abbrev pub verdict_of : Answer Unit Refusal → A → Result A
  verdict_of (Ok t) a = gives a
  verdict_of (Err r) a = refused (refusal_number r) (refusal_place r)

-- a count, or a refusal, that answers a rule: where the rule gives open blocks, they are in so many of the first slots of an array
abbrev pub Counted : Result (List ℕ) → List Block → Answer ℕ Refusal → Type 0
Counted rule blocks (Ok d) = (d ≤ max_open) × (rule ≡ gives (take d (map index blocks)))
Counted rule blocks (Err r) = rule ≡ refused (refusal_number r) (refusal_place r)

-- a document that 1 to 8 accept, or its refusal
unfoldable pub checked : List ℕ → Result (List ℕ)
checked s = check s >>= λ _. gives s
