-- The first six bytes of each record, one record at a time. Assumes nothing.
use Rattle.joined_rules.proofs.Names.{ℕ, zero, suc, ◌+◌, ◌≤◌, ◌<◌, ◌≡◌, refl, sym, ap, ◌∙◌, List, [], ◌∷◌, length, take, drop, length-drop}
use Rattle.joined_rules.proofs.Names.{drop_of_length-le, drop-drop, arith, drop_past}
use Rattle.joined_rules.specs.Joined.{cut, heads_from}

cut_pass : (after : List ℕ → ℕ) (s : List ℕ) (pass : ℕ) → cut after pass s ≡ cut after 0 (drop pass s)
unfolding cut
cut_pass after [] zero = refl
cut_pass after [] (suc pass) = refl
cut_pass after (b ∷ s) zero = refl
cut_pass after (b ∷ s) (suc pass) = cut_pass after s pass

pub cut-some : (after : List ℕ → ℕ) (s : List ℕ) → 1 ≤ length s → cut after 0 s ≡ take 6 s ∷ cut after 0 (drop (6 + after s) s)
unfolding cut
cut-some after [] h = let z : ⊥ = omega arith in absurd z
cut-some after (b ∷ s) h =
    ap (λ (hs : List (List ℕ)). take 6 (b ∷ s) ∷ hs) (cut_pass after s (5 + after (b ∷ s)) ∙ ap (cut after 0) (sym (drop_past (after (b ∷ s)) b s)))

-- those of a joined form from a place on
module _ (j : List ℕ) (at : ℕ) where
  pub heads_next : at < length j → heads_from j at ≡ take 6 (drop at j) ∷ heads_from j (at + 6)
  heads_next l =
      cut-some (λ _. 0) (drop at j) (omega (arith, length-drop at j)) ∙ ap (λ (s : List ℕ). take 6 (drop at j) ∷ cut (λ _. 0) 0 s) (drop-drop 6 at j)

  pub heads_none : length j ≤ at → heads_from j at ≡ []
  unfolding cut
  heads_none h = ap (λ (s : List ℕ). cut (λ _. 0) 0 s) (drop_of_length-le j h)
