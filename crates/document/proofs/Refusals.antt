-- The records of a document one at a time, as refusals 2 to 7 are met. Assumes nothing.
use Rattle.document.proofs.Names.{ℕ, zero, suc, ◌+◌, ◌≤◌, ◌<◌, ◌≡◌, refl, sym, ap, ap₂, ◌∙◌, List, [], ◌∷◌, length, drop, length-drop}
use Rattle.document.proofs.Names.{drop_of_length-le, drop-drop, arith, Result, gives, refused, ◌>>=◌, size, first, reads, next_at, drop_past}
use native.Mathlib.Nat.{add-zero}

reads_pass : (s : List ℕ) (p pass : ℕ) (stack : List ℕ) → reads p pass stack s ≡ reads (p + pass) 0 stack (drop pass s)
unfolding reads
reads_pass [] p zero stack = refl
reads_pass [] p (suc pass) stack = refl
reads_pass (b ∷ s) p zero stack = simp add-zero
reads_pass (b ∷ s) p (suc pass) stack = reads_pass s (p + 1) pass stack ∙ ap (λ (k : ℕ). reads k 0 stack (drop pass s)) (omega arith)

-- the first record is checked, and then those from its end on
pub reads-some : (l : List ℕ) (p : ℕ) (stack : List ℕ) → 1 ≤ length l
    → reads p 0 stack l ≡ (first p stack l >>= λ after. reads (p + (6 + size l)) 0 after (drop (6 + size l) l))
unfolding reads
reads-some [] p stack h = let z : ⊥ = omega arith in absurd z
reads-some (b ∷ s) p stack h =
    let m = size (b ∷ s) in
    let e : p + 1 + (5 + m) ≡ p + (6 + m) = omega arith in
    let f : ◌≡◌ {A = List ℕ → Result (List ℕ)} (λ after. reads (p + 1) (5 + m) after s) (λ after. reads (p + (6 + m)) 0 after (drop (6 + m) (b ∷ s)))
    = λ i after. (reads_pass s (p + 1) (5 + m) after ∙ ap₂ (λ (k : ℕ) (l : List ℕ). reads k 0 after l) e (sym (drop_past m b s))) i in
    ap (λ (g : List ℕ → Result (List ℕ)). first p stack (b ∷ s) >>= g) f

pub reads-step : (b : ℕ) (s : List ℕ) (p : ℕ) (stack after : List ℕ) → first p stack (b ∷ s) ≡ gives after
    → reads p 0 stack (b ∷ s) ≡ reads (p + (6 + size (b ∷ s))) 0 after (drop (6 + size (b ∷ s)) (b ∷ s))
unfolding ◌>>=◌
reads-step b s p stack after e = reads-some (b ∷ s) p stack (omega arith) ∙ rw e

pub reads-stop : (b : ℕ) (s : List ℕ) (p : ℕ) (stack : List ℕ) (n q : ℕ) → first p stack (b ∷ s) ≡ refused n q → reads p 0 stack (b ∷ s) ≡ refused n q
unfolding ◌>>=◌
reads-stop b s p stack n q e = reads-some (b ∷ s) p stack (omega arith) ∙ rw e

module _ (document : List ℕ) (at : ℕ) where
  module _ (stack : List ℕ) where
    -- the record at a place is checked, and then those from its end on
    pub reads_at : at < length document
        → reads at 0 stack (drop at document)
        ≡ (first at stack (drop at document) >>= λ after. reads (next_at document at) 0 after (drop (next_at document at) document))
    reads_at h =
        reads-some (drop at document) at stack (simp length-drop (omega arith))
        ∙ ap (λ (l : List ℕ). first at stack (drop at document) >>= λ after. reads (next_at document at) 0 after l)
        (drop-drop (6 + size (drop at document)) at document)

    pub reads_at_gives : (after : List ℕ) → at < length document → first at stack (drop at document) ≡ gives after
        → reads at 0 stack (drop at document) ≡ reads (next_at document at) 0 after (drop (next_at document at) document)
    unfolding ◌>>=◌
    reads_at_gives after h e = reads_at h ∙ rw e

    pub reads_at_refused : (n p : ℕ) → at < length document → first at stack (drop at document) ≡ refused n p
        → reads at 0 stack (drop at document) ≡ refused n p
    unfolding ◌>>=◌
    reads_at_refused n p h e = reads_at h ∙ rw e

    pub reads_end : length document ≤ at → reads at 0 stack (drop at document) ≡ gives stack
    unfolding reads
    reads_end h = rw (drop_of_length-le document h)
