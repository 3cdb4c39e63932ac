-- What is said of a document's shape, by the cases of the answer; and that the rules settle it. Assumes nothing.
use Rattle.sefgrunn.proofs.Names.{ℕ, ◌≡◌, refl, sym, ap, subst, ◌∙◌, List, Result, gives, refused, refusal_number, refusal_place, Refusal}
use Rattle.sefgrunn.proofs.Names.{answered, Answer, Ok, Err, Option, Some, None}
use Rattle.std.specs.Prelude.{Bool, eqb, MatchResult, IsOkAnd}
use Rattle.std.specs.Option.{unwrap_or, option_eq}
use Rattle.std.specs.Result.{result_eq}
use mir.Val.{bool_byte}
use Rattle.sefgrunn.specs.Numbers.{number_of, length_or_place}
use Rattle.shape.specs.Answers.{TheAnswer}
use Rattle.sefgrunn.specs.HouseShape.{ShapeTold, yes, no, refusal}

-- The numbers of an answer; the place is 0 where there is none. `E` says whether two refusals are one, and `Q` what is known of the place.
pub told : {s : List ℕ} {Q : Option ℕ → ℕ → Type 0} (E : Refusal → Refusal → Bool) (r : Answer (Option ℕ) Refusal) (q : Answer ℕ Refusal)
    → TheAnswer s (answered r) → MatchResult r (λ x. IsOkAnd q (Q x)) (λ e. q ≡ Err e) → ((x : Option ℕ) (n : ℕ) → Q x n → n ≡ unwrap_or x 0)
    → ShapeTold s (number_of (answered q)) (bool_byte (result_eq (option_eq eqb) E r (Ok None))) (length_or_place (answered q))
told E (Ok None) (Ok n) a m k = rw (k None n m) (yes a)
told E (Ok (Some p)) (Ok n) a m k = rw (k (Some p) n m) (no a)
told E (Ok x) (Err e) a m k = absurd m
told E (Err e) q a m k = rw m (refusal a)

-- what is returned and stored, as one

record Said : Type 0 where
  pub number : ℕ
  pub shaped : ℕ
  pub place : ℕ

said : Result (Option ℕ) → Said
said (gives None) = record { number = 0; shaped = 1; place = 0 }
said (gives (Some p)) = record { number = 0; shaped = 0; place = p }
said (refused n p) = record { number = n; shaped = 0; place = p }

told_said : {s : List ℕ} {n h p : ℕ} → ShapeTold s n h p → (a : Result (Option ℕ)) × TheAnswer s a × (said a ≡ record { number = n; shaped = h; place = p })
unfolding said
told_said (yes x) = (gives None, x, refl)
told_said (no {p} x) = (gives (Some p), x, refl)
told_said (refusal {n} {p} x) = (refused n p, x, refl)

-- the number returned and the two stored follow from the document
pub one_told : {s : List ℕ} {n h p m k q : ℕ} → ShapeTold s n h p → ShapeTold s m k q → (n ≡ m) × (h ≡ k) × (p ≡ q)
one_told {s} {n} {h} {p} {m} {k} {q} x y =
    let a = told_said x in
    let b = told_said y in
    let e = sym a.2 ∙ ap said (b.1.alone a.0 a.1.holds) ∙ b.2 in
    (ap (λ (z : Said). z.number) e, ap (λ (z : Said). z.shaped) e, ap (λ (z : Said). z.place) e)
