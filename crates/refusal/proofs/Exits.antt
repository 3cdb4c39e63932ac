-- What a call answered, at the two exits of a `?` and in the arms of a match. Assumes nothing.
use Rattle.std.specs.Prelude.{Result as Answer, Ok, Err, IsErrAnd}
use Rattle.std.proofs.lemmas.Result.{err_from_is_err_and}
use mathlib.Core.Path.{◌≡◌, ◌∙◌, ap, sym}
use Rattle.base.specs.Result.{Result, gives, refused}
use Rattle.refusal.specs.Numbers.{refusal_number, refusal_place}
use Rattle.refusal.specs.Answers.{answered}
use Rattle.refusal.specs.declared.Refusal.{Refusal}

module _ {A : Type 0} where
  module _ {r : Answer A Refusal} {x : Result A} (e : answered r ≡ x) where
    -- it gave a value, or refused
    pub answered-gives : {a : A} → r ≡ Ok a → x ≡ gives a
    answered-gives f = sym e ∙ ap answered f

    pub answered-refused : {d : Refusal} → r ≡ Err d → x ≡ refused (refusal_number d) (refusal_place d)
    answered-refused f = sym e ∙ ap answered f

  -- what a function answers where a `?` ends it with a refusal
  pub answered-exit : (r : Answer A Refusal) (d : Refusal) → IsErrAnd r (λ e. e ≡ d) → answered r ≡ refused (refusal_number d) (refusal_place d)
  answered-exit r d h = let p = err_from_is_err_and r h in rw (p.1, p.2)
