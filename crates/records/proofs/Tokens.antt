-- The records of a document one at a time, as they are listed. Assumes nothing.
use Rattle.records.proofs.Names.{ℕ, zero, suc, ◌+◌, ◌≤◌, ◌<◌, ◌≡◌, refl, sym, ap, ap₂, ◌∙◌, List, [], ◌∷◌, length, drop, length-drop}
use Rattle.records.proofs.Names.{drop_of_length-le, drop-drop, add-zero, arith, Token, token_at, tokens, tokens_from, size}

-- where the record at a place ends
abbrev pub next_at : List ℕ → ℕ → ℕ
next_at document at = at + (6 + size (drop at document))

tokens_pass : (s : List ℕ) (p pass : ℕ) → tokens p pass s ≡ tokens (p + pass) 0 (drop pass s)
unfolding tokens
tokens_pass [] p zero = refl
tokens_pass [] p (suc pass) = refl
tokens_pass (b ∷ s) p zero = simp add-zero
tokens_pass (b ∷ s) p (suc pass) = tokens_pass s (p + 1) pass ∙ ap (λ (k : ℕ). tokens k 0 (drop pass s)) (omega arith)

pub drop_past : (n b : ℕ) (s : List ℕ) → drop (6 + n) (b ∷ s) ≡ drop (5 + n) s
drop_past n b s = let e : 6 + n ≡ suc (5 + n) = omega arith in ap (λ (k : ℕ). drop k (b ∷ s)) e

-- the first record, and those from its end on
pub tokens-step : (b : ℕ) (s : List ℕ) (p : ℕ)
    → tokens p 0 (b ∷ s) ≡ token_at p (b ∷ s) ∷ tokens (p + (6 + size (b ∷ s))) 0 (drop (6 + size (b ∷ s)) (b ∷ s))
unfolding tokens
tokens-step b s p =
    let n = size (b ∷ s) in
    let e : p + 1 + (5 + n) ≡ p + (6 + n) = omega arith in
    ap (λ (ts : List Token). token_at p (b ∷ s) ∷ ts) (tokens_pass s (p + 1) (5 + n) ∙ ap₂ (λ (k : ℕ) (l : List ℕ). tokens k 0 l) e (sym (drop_past n b s)))

pub tokens-some : (l : List ℕ) (p : ℕ) → 1 ≤ length l → tokens p 0 l ≡ token_at p l ∷ tokens (p + (6 + size l)) 0 (drop (6 + size l) l)
tokens-some [] p h = let z : ⊥ = omega arith in absurd z
tokens-some (b ∷ s) p h = tokens-step b s p

module _ (document : List ℕ) (at : ℕ) where
  -- the record at a place, and those from its end on
  pub tokens_at : at < length document → tokens_from document at ≡ token_at at (drop at document) ∷ tokens_from document (next_at document at)
  tokens_at h =
      tokens-some (drop at document) at (simp length-drop (omega arith))
      ∙ ap (λ (l : List ℕ). token_at at (drop at document) ∷ tokens (next_at document at) 0 l) (drop-drop (6 + size (drop at document)) at document)

  -- past the end there is none
  pub tokens-end : length document ≤ at → tokens_from document at ≡ []
  unfolding tokens
  tokens-end h = rw (drop_of_length-le document h)
