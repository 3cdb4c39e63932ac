-- What a function answers, as a rule's result.
use Rattle.std.specs.Prelude.{Result as Answer, Ok, Err}
use Rattle.base.specs.Result.{Result, gives, refused}
use Rattle.refusal.specs.Numbers.{refusal_number, refusal_place}
use Rattle.refusal.specs.declared.Refusal.{Refusal}

-- what is given, or 'A refusal is its number and place'
module _ {A : Type 0} where
  abbrev pub answered : Answer A Refusal → Result A
  answered (Ok a) = gives a
  answered (Err r) = refused (refusal_number r) (refusal_place r)
