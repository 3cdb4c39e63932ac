-- The loop over the records of a bundle, as an iterator gives them: what holds before each, and what follows from it. Assumes nothing.
use Rattle.figures.proofs.Names.{ℕ, ◌+◌, ◌-◌, ◌≤◌, ◌≡◌, refl, sym, ap, ap₂, ◌∙◌, true, false, List, [], ◌∷◌, length, take, drop, length-drop, arith}
use Rattle.figures.proofs.Names.{gives, refused, part, little, size, record_fits, nothing, plus, from}
use lib.Seq.{length-take-le}
use Rattle.records.specs.Records.{Token, tokens, tokens_from}
use Rattle.records.proofs.Taking.{Taken, taken, none_left}
use Rattle.figures.specs.InnerParts.{Bounded}
use Rattle.figures.specs.declared.Figures.{Figures}
use Rattle.figures.proofs.Laws.{from_end, from_cut, from-other, from_next}

-- some figures, with those of the documents of the records that are left, are those of the whole bundle
pub record Counting (s : List ℕ) (f : Figures) (others : List Token) : Type 0 where
  pub at : ℕ
  pub listed : tokens_from s at ≡ others
  pub within : at ≤ length s
  pub few : f.documents ≤ at
  pub bounded : Bounded f
  pub runs : from s at f ≡ from s 0 nothing

pub counting_all : (s : List ℕ) (f : Figures) → f.documents ≡ 0 → f.accepted ≡ 0 → f.refused ≡ 0 → f.characters ≡ 0 → Counting s f (tokens 0 0 s)
counting_all s f d a r c = record {
  at = 0;
  listed = refl;
  within = omega arith;
  few = omega (arith, d);
  bounded = record { accepted = omega (arith, a); refused = omega (arith, r); characters = omega (arith, c) };
  runs = ap (from s 0) (λ i. record { documents = d i; accepted = a i; refused = r i; characters = c i });
}

module _ {s : List ℕ} {f : Figures} {others : List Token} (o : Counting s f others) where
  pub counting_few : f.documents ≤ length s
  counting_few = omega (arith, o.few, o.within)

  pub counting_done : others ≡ [] → gives f ≡ from s 0 nothing
  counting_done e = from_end s o.at f (none_left s o.at (o.listed ∙ e)) ∙ o.runs

  module _ {t : Token} {rest : List Token} (e : others ≡ t ∷ rest) where
    here : Taken s o.at t rest
    here = taken (o.listed ∙ e)

    at-place : o.at ≡ t.place
    at-place = ap (λ (t : Token). t.place) here.is

    pub counting_body : length t.body ≤ length s
    counting_body =
        let h = here.head in
        let n = length-take-le (h.next - h.start) (drop h.start s) (omega (arith, length-drop h.start s, here.read.high)) in
        omega (arith, ap (λ (t : Token). length t.body) here.is, n, here.read.high)

    pub counting_cut : record_fits (drop t.place s) ≡ false → refused 15 t.place ≡ from s 0 nothing
    counting_cut c = ap (refused 15) (sym at-place) ∙ from_cut s o.at f here.inside (rw at-place c) ∙ o.runs

    module _ (c : record_fits (drop t.place s) ≡ true) {k : ℕ} (ek : k ≡ little (take 2 (drop (t.place + 4) s))) where
      fits : record_fits (drop o.at s) ≡ true
      fits = rw at-place c

      kind : k ≡ little (take 2 (drop (o.at + 4) s))
      kind = rw at-place ek

      pub counting-other : (k ≡ 0x0300 → ⊥) → refused 14 t.place ≡ from s 0 nothing
      counting-other n = ap (refused 14) (sym at-place) ∙ from-other s o.at f here.inside fits k kind n ∙ o.runs

      pub counting_on : k ≡ 0x0300 → {g : Figures} → g ≡ plus f (t.body ∷ []) → g.documents ≡ f.documents + 1 → Bounded g → Counting s g rest
      unfolding size
      counting_on i {g} v d b =
          let h = here.head in
          let w = here.read.whole here.inside fits in
          let n = size (drop o.at s) in
          let next : h.next ≡ o.at + 6 + n = omega (arith, w.1) in
          let body : t.body ≡ part s (o.at + 6) (o.at + 6 + n) =
          ap (λ (t : Token). t.body) (sym here.is) ∙ ap₂ (part s) w.0 next in
          record {
            at = h.next;
            listed = here.on;
            within = here.read.high;
            few = omega (arith, d, o.few, next);
            bounded = b;
            runs =
                ap₂ (from s) next (v ∙ ap (λ (x : List ℕ). plus f (x ∷ [])) body)
                ∙ from_next s o.at f here.inside fits k kind n refl i
                ∙ o.runs;
          }
