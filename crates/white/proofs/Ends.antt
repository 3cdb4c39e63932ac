-- The end of the first e bytes of s, and the size of the White_Space character there.
-- Assumes nothing.
use Rattle.white.proofs.Names.{◌≡◌, refl, ap, sym, ◌∙◌, Bool, true, false, List, [], ◌∷◌, ℕ, suc, ◌-◌, ◌<◌, ◌≤◌, arith, length, get_or, drop}
use Rattle.white.proofs.Names.{drop-cons, drop-length, when◌then◌else◌, encode, whites, white_bytes, white_size, last}

-- the last bytes of some, one by one
module _ (s : List ℕ) where
  from_here : (k : ℕ) → 1 ≤ k → k ≤ length s → last k s ≡ get_or s (length s - k) 0 ∷ last (k - 1) s
  from_here k g h =
      let q : suc (length s - k) ≡ length s - (k - 1) = omega arith in
      drop-cons s (length s - k) 0 (omega arith) ∙ ap (λ (n : ℕ). get_or s (length s - k) 0 ∷ drop n s) q

  last_1 : 1 ≤ length s → last 1 s ≡ get_or s (length s - 1) 0 ∷ []
  last_1 h =
      let z : length s - 0 ≡ length s = omega arith in
      from_here 1 (omega arith) h ∙ ap (λ (l : List ℕ). get_or s (length s - 1) 0 ∷ l) (ap (λ (n : ℕ). drop n s) z ∙ drop-length s)

  last_2 : 2 ≤ length s → last 2 s ≡ get_or s (length s - 2) 0 ∷ get_or s (length s - 1) 0 ∷ []
  last_2 h = from_here 2 (omega arith) h ∙ ap (λ (l : List ℕ). get_or s (length s - 2) 0 ∷ l) (last_1 (omega arith))

  last_3 : 3 ≤ length s → last 3 s ≡ get_or s (length s - 3) 0 ∷ get_or s (length s - 2) 0 ∷ get_or s (length s - 1) 0 ∷ []
  last_3 h = from_here 3 (omega arith) h ∙ ap (λ (l : List ℕ). get_or s (length s - 3) 0 ∷ l) (last_2 (omega arith))

  pub got1 : {x : Bool} → 1 ≤ length s → x ≡ white_bytes (get_or s (length s - 1) 0 ∷ []) → white_bytes (last 1 s) ≡ x
  got1 h p = ap white_bytes (last_1 h) ∙ sym p

  pub got2 : {x : Bool} → 2 ≤ length s → x ≡ white_bytes (get_or s (length s - 2) 0 ∷ get_or s (length s - 1) 0 ∷ []) → white_bytes (last 2 s) ≡ x
  got2 h p = ap white_bytes (last_2 h) ∙ sym p

  pub got3 : {x : Bool} → 3 ≤ length s → x ≡ white_bytes (get_or s (length s - 3) 0 ∷ get_or s (length s - 2) 0 ∷ get_or s (length s - 1) 0 ∷ [])
      → white_bytes (last 3 s) ≡ x
  got3 h p = ap white_bytes (last_3 h) ∙ sym p

pub last-short : (k : ℕ) (t : List ℕ) → length t ≤ k → last k t ≡ t
last-short k t h = let z : length t - k ≡ 0 = omega arith in rw z

module _ (t : List ℕ) where
  pub size_1 : white_bytes (last 1 t) ≡ true → (1 ≤ 1) × (1 ≡ white_size t)
  unfolding when◌then◌else◌ white_size
  size_1 a = (omega arith, rw a)

  pub size_2 : white_bytes (last 1 t) ≡ false → white_bytes (last 2 t) ≡ true → (1 ≤ 2) × (2 ≡ white_size t)
  unfolding when◌then◌else◌ white_size
  size_2 a b = (omega arith, rw (a, b))

  pub size_3 : white_bytes (last 1 t) ≡ false → white_bytes (last 2 t) ≡ false → white_bytes (last 3 t) ≡ true → (1 ≤ 3) × (3 ≡ white_size t)
  unfolding when◌then◌else◌ white_size
  size_3 a b c = (omega arith, rw (a, b, c))

  pub none_3 : white_bytes (last 1 t) ≡ false → white_bytes (last 2 t) ≡ false → white_bytes (last 3 t) ≡ false → white_size t ≡ 0
  unfolding when◌then◌else◌ white_size
  none_3 a b c = rw (a, b, c)

  pub none_2 : length t ≤ 2 → white_bytes (last 1 t) ≡ false → white_bytes (last 2 t) ≡ false → white_size t ≡ 0
  none_2 l a b = none_3 a b (ap white_bytes (last-short 3 t (omega arith) ∙ sym (last-short 2 t l)) ∙ b)

  pub none_1 : length t ≤ 1 → white_bytes (last 1 t) ≡ false → white_size t ≡ 0
  none_1 l a = none_2 (omega arith) a (ap white_bytes (last-short 2 t (omega arith) ∙ sym (last-short 1 t l)) ∙ a)

pub none_0 : (s : List ℕ) → length s < 1 → white_size s ≡ 0
unfolding when◌then◌else◌ white_size white_bytes whites encode
none_0 [] h = refl
none_0 (b ∷ s) h = let z : ⊥ = omega arith in absurd z
