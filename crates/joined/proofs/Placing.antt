-- A place of the document in the joined form, as the code finds it. Assumes nothing.
use Rattle.std.specs.Prelude.{◌^◌, min, Bool, true, false}
use borrow.Author.Tests.{leb-false}
use Rattle.joined.proofs.Names.{ℕ, ◌+◌, ◌-◌, ◌≤◌, ◌<◌, ◌≡◌, refl, sym, subst, ap, ap₂, ◌∙◌, List, [], ◌∷◌}
use Rattle.joined.proofs.Names.{leb, leb-true, arith, le-leb, lt-leb, if_true}
use Rattle.joined.proofs.Names.{if_false, size, records_at, heads_in}
use Rattle.base.specs.Choice.{when◌then◌else◌}
use Rattle.joined_rules.specs.Places.{place_from, place_in, byte_from, byte_in}

-- the largest number that a place can be
abbrev pub top : ℕ
top = 2 ^ 64 - 1

-- a place in the document, past which the code does not count
place_capped : (q a b : ℕ) (hs : List (List ℕ)) (p : ℕ) → p ≤ top → min a top ≡ min b top → place_from q a hs p ≡ place_from q b hs p
unfolding place_from
place_capped q a b [] p l e = refl
place_capped q a b (h ∷ hs) p l e =
    ap₂ (λ (x : Bool) (r : ℕ). when x then q else r) (same (leb p a) refl (leb p b) refl)
    (place_capped (q + 6) (a + (6 + size h)) (b + (6 + size h)) hs p l (omega (arith, e)))
  where
    same : (x : Bool) → leb p a ≡ x → (y : Bool) → leb p b ≡ y → leb p a ≡ leb p b
    same true f true g = f ∙ sym g
    same true f false g = absurd (omega (arith, leb-true p a f, leb-false p b g, e, l))
    same false f true g = absurd (omega (arith, leb-false p a f, leb-true p b g, e, l))
    same false f false g = f ∙ sym g

-- The records that are left stand from q on, the first of them at `at` in the document, or past every place.
module _ (p q at : ℕ) {hs : List (List ℕ)} where
  pub placing_end : hs ≡ [] → place_from q at hs p ≡ q
  unfolding place_from
  placing_end e = ap (λ (hs : List (List ℕ)). place_from q at hs p) e

  module _ {h : List ℕ} {rest : List (List ℕ)} (e : hs ≡ h ∷ rest) where
    pub placing_here : p ≤ at → place_from q at hs p ≡ q
    unfolding place_from
    placing_here l = ap (λ (hs : List (List ℕ)). place_from q at hs p) e ∙ if_true _ _ (le-leb p at l)

    pub placing_next : {n to : ℕ} → n ≡ size h → to ≡ q + 6 → at < p → p ≤ top → place_from q at hs p ≡ place_from to (min (at + (6 + n)) top) rest p
    unfolding place_from
    placing_next {n} {to} f g l m =
        ap (λ (hs : List (List ℕ)). place_from q at hs p) e ∙ if_false _ _ (lt-leb p at l)
        ∙ ap₂ (λ (k : ℕ) (s : ℕ). place_from k (at + (6 + s)) rest p) (sym g) (sym f)
        ∙ place_capped to (at + (6 + n)) (min (at + (6 + n)) top) rest p m (omega arith)

pub placing_start : (j : List ℕ) (p : ℕ) {q : ℕ} {hs : List (List ℕ)} → q ≡ records_at j → hs ≡ heads_in j → place_from q 0 hs p ≡ place_in j p
unfolding place_in
placing_start j p e f = rw (e, f)

-- The same of a byte, with its record's text at `from`: at most four more than `at`, which is not past the place.
pub record Finding (j : List ℕ) (p at from : ℕ) (hs : List (List ℕ)) : Type 0 where
  pub near : at ≤ p
  pub short : from ≤ 4 + at
  pub finds : byte_from from at hs p ≡ byte_in j p

pub finding_start : (j : List ℕ) (p : ℕ) {hs : List (List ℕ)} → hs ≡ heads_in j → Finding j p 0 4 hs
unfolding byte_in
finding_start j p e = record {
  near = omega arith;
  short = omega arith;
  finds = ap (λ (hs : List (List ℕ)). byte_from 4 0 hs p) e;
}

module _ {j : List ℕ} {p at from : ℕ} {hs : List (List ℕ)} (w : Finding j p at from hs) where
  pub finding_end : hs ≡ [] → from ≡ byte_in j p
  unfolding byte_from
  finding_end e = sym (ap (λ (hs : List (List ℕ)). byte_from from at hs p) e) ∙ w.finds

  module _ {h : List ℕ} {rest : List (List ℕ)} (f : hs ≡ h ∷ rest) {n : ℕ} (e : n ≡ size h) where
    abbrev step : ℕ → ℕ
    step m = when leb p (at + (6 + m)) then from + (p - (at + 6)) else byte_from (from + m) (at + (6 + m)) rest p

    finds_here : step n ≡ byte_in j p
    unfolding byte_from
    finds_here = ap step e ∙ sym (ap (λ (hs : List (List ℕ)). byte_from from at hs p) f) ∙ w.finds

    pub finding_here : p ≤ min (at + (6 + n)) top → from + (p - at - 6) ≡ byte_in j p
    finding_here h =
        ap (λ (k : ℕ). from + k) (let z : p - at - 6 ≡ p - (at + 6) = omega arith in z)
        ∙ sym (if_true _ _ (le-leb p (at + (6 + n)) (omega (arith, h)))) ∙ finds_here

    pub finding_next : min (at + (6 + n)) top < p → p ≤ top → Finding j p (min (at + (6 + n)) top) (from + n) rest
    finding_next h m =
        let z : at + (6 + n) ≡ min (at + (6 + n)) top = omega (arith, h, m) in
        subst (λ (k : ℕ). Finding j p k (from + n) rest) z record {
          near = omega (arith, h, z);
          short = omega (arith, w.short);
          finds = sym (if_false _ _ (lt-leb p (at + (6 + n)) (omega (arith, h, z)))) ∙ finds_here;
        }
