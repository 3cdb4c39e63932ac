-- The next end of a Section4, looked for once: where it was found from, and after each record that is passed. Assumes nothing.
use Rattle.console_tabstop.proofs.Names.{◌≡◌, refl, sym, ap, ◌∙◌, Bool, true, false, ⊎_elim, List, ℕ, ◌≤◌, ◌<◌, arith, length, if_true, if_false}
use Rattle.console_tabstop.proofs.Names.{le_or_lt, tokens_from, is_end, Read, Head, read-on, tokens-end, Ahead}
use native.Mathlib.Nat.{le_refl}
use Rattle.records.specs.Records.{token_at}
use Rattle.records.proofs.Tokens.{tokens_at}
use Rattle.console_tabstop.specs.InnerAhead.{place_of, after_end, Known}
use Rattle.console_tabstop.proofs.Scans.{listed, gap_here, gap_next, gap_none, empty-none}

place_here : (s : List ℕ) (at : ℕ) → at ≤ length s → place_of (length s) (tokens_from s at) ≡ at
unfolding place_of token_at
place_here s at l =
    ⊎_elim (λ (h : length s ≤ at). ap (place_of (length s)) (tokens-end s at h) ∙ (let e : length s ≡ at = omega arith in e))
    (λ (h : at < length s). ap (place_of (length s)) (tokens_at s at h)) (le_or_lt (length s) at)

-- past the end there is none
pub ahead_none : (s : List ℕ) (at : ℕ) → length s ≤ at → Ahead s at (length s)
unfolding after_end
ahead_none s at past = record {
  place = ap (after_end (length s)) (tokens-end s at past);
  gap = gap_none s at past ∙ sym (empty-none s (length s) (le_refl (length s)));
}

module _ (s : List ℕ) (at : ℕ) (h : Head) (r : Read s at h) (inside : at < length s) where
  -- the record read is such an end, or the end comes later
  pub ahead-here : is_end 3 h.kind ≡ true → Ahead s at h.next
  unfolding after_end
  ahead-here e = record {
    place = ap (after_end (length s)) (listed s at h r inside) ∙ if_true _ _ e ∙ place_here s h.next r.high;
    gap = gap_here s at h r inside e;
  }

  later : is_end 3 h.kind ≡ false → after_end (length s) (tokens_from s at) ≡ after_end (length s) (tokens_from s h.next)
  unfolding after_end
  later e = ap (after_end (length s)) (listed s at h r inside) ∙ if_false _ _ e

  pub ahead-later : is_end 3 h.kind ≡ false → (e : ℕ) → Ahead s h.next e → Ahead s at e
  ahead-later f e a = record { place = later f ∙ a.place; gap = gap_next s at h r inside f ∙ a.gap }

  -- what is known is known until the place is passed
  pub known_next : (e : ℕ) → Known s at e → Known s h.next e
  known_next e k l = go (is_end 3 h.kind) refl
    where
      before : Ahead s at e
      before = k (omega (arith, (read-on r inside).0))

      go : (b : Bool) → is_end 3 h.kind ≡ b → Ahead s h.next e
      go true f = let z : ⊥ = omega (arith, sym (ahead-here f).place ∙ before.place) in absurd z
      go false f = record { place = sym (later f) ∙ before.place; gap = sym (gap_next s at h r inside f) ∙ before.gap }
