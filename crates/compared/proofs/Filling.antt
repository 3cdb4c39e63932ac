-- A room that holds a text and then something else, compared one byte at a time. Assumes nothing.
use Rattle.compared.proofs.Names.{ℕ, zero, suc, ◌+◌, ◌≤◌, ◌<◌, ◌≡◌, refl, sym, ◌∙◌, ⊎_elim, List, [], length, take, drop, get_or, set}
use Rattle.compared.proofs.Names.{eqb, ◌∷◌, drop-cons, drop_of_length-le, length-append, get_or-append}
use Rattle.compared.proofs.Names.{take-suc-set, get_or_at, add-one, arith, le_or_lt, same, filled_by}
use Rattle.std.specs.List.{list_all, enumerate_from}

module _ (other : ℕ → ℕ) where
  pub length-filled : (n : ℕ) (text : List ℕ) → length (filled_by other n text) ≡ n
  unfolding filled_by
  length-filled zero text = refl
  length-filled (suc n) text = let h = length-filled n text in length-append (filled_by other n text) _ ∙ omega arith

  -- one byte more was written
  pub filled_more : (text room : List ℕ) (i v : ℕ) → i < length room → take i room ≡ filled_by other i text → v ≡ get_or text i (other i)
      → take (i + 1) (set room i v) ≡ filled_by other (i + 1) text
  unfolding filled_by
  filled_more text room i v h e f = rw (add-one i, take-suc-set room i v h, e, f)

  -- the byte at a place
  pub get_d_filled : (n : ℕ) (text : List ℕ) (i : ℕ) → i < n → get_or (filled_by other n text) i 0 ≡ get_or text i (other i)
  unfolding filled_by
  get_d_filled zero text i h = absurd (omega arith)
  get_d_filled (suc n) text i h =
      let l = length-filled n text in
      ⊎_elim
      (λ (k : n ≤ i). let e : i ≡ n = omega arith in rw e (get_or_at (filled_by other n text) _ [] 0 n l))
      (λ (k : i < n). get_or-append (filled_by other n text) _ 0 i (omega arith) ∙ get_d_filled n text i k)
      (le_or_lt n i)

  -- each byte of a room, from the place k on, beside what belongs at its place
  pub all-filled : (text ys : List ℕ) (k n : ℕ) → n ≡ k + length ys
      → list_all (λ (p : ℕ × ℕ). eqb p.1 (get_or text p.0 (other p.0))) (enumerate_from k ys) ≡ same ys (drop k (filled_by other n text))
  unfolding same
  all-filled text [] k n h =
      let l = length-filled n text in
      rw (drop_of_length-le (filled_by other n text) {i = k} (omega arith)) refl
  all-filled text (y ∷ ys) k n h =
      let l = length-filled n text in
      let later = all-filled text ys (k + 1) n (omega arith) in
      rw (drop-cons (filled_by other n text) k 0 (omega arith), get_d_filled n text k (omega arith), sym (add-one k), later) refl
