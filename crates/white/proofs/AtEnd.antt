-- The White_Space character at an end by its last three bytes, and where none stands there. Assumes nothing.
use Rattle.white.proofs.Names.{◌≡◌, refl, sym, ◌∙◌, ◌⊎◌, ⊎_elim, Bool, true, false, false≢true, ◌||◌, ◌&&◌, List, [], ◌∷◌, ℕ, ◌-◌, ◌<◌, ◌≤◌, arith}
use Rattle.white.proofs.Names.{length, get_or, eqb, leb, eqb-true, eq-eqb, ne_eqb, leb-true, le_or_lt, white_bytes, white_size, last, whites, encode}
use Rattle.white.proofs.Names.{when◌then◌else◌}
use Rattle.std.proofs.Common.{le-leb}
use Rattle.white.proofs.WhiteBytes.{two, not_two, e280, e281, e19a, e380, not_e2, not_e1, not_e3, not_three}
use Rattle.white.proofs.Ends.{got1, got2, got3, size_2, size_3, none_0, none_1, none_2, none_3}

-- a test fails where two numbers are the same, and where they are not
at_or_off : (x y : ℕ) (t : Bool) → (x ≡ y → t ≡ false) → ((x ≡ y → ⊥) → t ≡ false) → t ≡ false
at_or_off x y t f g = go (eqb x y) refl
  where
    go : (b : Bool) → eqb x y ≡ b → t ≡ false
    go true q = f (eqb-true x y q)
    go false q = g (λ e. false≢true (sym q ∙ eq-eqb x y e))

no_two : (b c : ℕ) → c < 256 → (b ≡ 0xC2 → c ≡ 0x85 → ⊥) → (b ≡ 0xC2 → c ≡ 0xA0 → ⊥) → white_bytes (b ∷ c ∷ []) ≡ false
no_two b c h n m = at_or_off b 0xC2 _ (λ e. rw (e, two c h, ne_eqb c 0x85 (n e), ne_eqb c 0xA0 (m e))) (λ d. not_two b c d)

no_range : (c : ℕ) → (0x80 ≤ c → c ≤ 0x8A → ⊥) → (c ≡ 0xA8 → ⊥) → (c ≡ 0xA9 → ⊥) → (c ≡ 0xAF → ⊥)
    → (leb 0x80 c && (leb c 0x8A || (eqb c 0xA8 || (eqb c 0xA9 || eqb c 0xAF)))) ≡ false
no_range c r x y z = rw (ne_eqb c 0xA8 x, ne_eqb c 0xA9 y, ne_eqb c 0xAF z) (go (leb 0x80 c) (leb c 0x8A) refl refl)
  where
    go : (u v : Bool) → leb 0x80 c ≡ u → leb c 0x8A ≡ v → (u && (v || false)) ≡ false
    go false v p q = refl
    go true false p q = refl
    go true true p q = absurd (r (leb-true 0x80 c p) (leb-true c 0x8A q))

module _ (a b c : ℕ) (h : c < 256) where
  no_three : (a ≡ 0xE2 → b ≡ 0x80 → 0x80 ≤ c → c ≤ 0x8A → ⊥) → (a ≡ 0xE2 → b ≡ 0x80 → c ≡ 0xA8 → ⊥)
      → (a ≡ 0xE2 → b ≡ 0x80 → c ≡ 0xA9 → ⊥) → (a ≡ 0xE2 → b ≡ 0x80 → c ≡ 0xAF → ⊥) → (a ≡ 0xE2 → b ≡ 0x81 → c ≡ 0x9F → ⊥)
      → (a ≡ 0xE1 → b ≡ 0x9A → c ≡ 0x80 → ⊥) → (a ≡ 0xE3 → b ≡ 0x80 → c ≡ 0x80 → ⊥) → white_bytes (a ∷ b ∷ c ∷ []) ≡ false
  no_three r x y z s t u =
      at_or_off a 0xE2 _
      (λ e. at_or_off b 0x80 _ (λ f. rw (e, f, e280 c h) (no_range c (r e f) (x e f) (y e f) (z e f)))
      (λ d. at_or_off b 0x81 _ (λ f. rw (e, f, e281 c h, ne_eqb c 0x9F (s e f))) (λ g. rw e (not_e2 b c d g))))
      (λ d. at_or_off a 0xE1 _ (λ e. at_or_off b 0x9A _ (λ f. rw (e, f, e19a c h, ne_eqb c 0x80 (t e f))) (λ g. rw e (not_e1 b c g)))
      (λ m. at_or_off a 0xE3 _ (λ e. at_or_off b 0x80 _ (λ f. rw (e, f, e380 c h, ne_eqb c 0x80 (u e f))) (λ g. rw e (not_e3 b c g)))
      (λ k. not_three a b c d m k)))

-- the last three bytes of s
module _ (s : List ℕ) where
  abbrev a : ℕ
  a = get_or s (length s - 3) 0

  abbrev b : ℕ
  b = get_or s (length s - 2) 0

  abbrev c : ℕ
  c = get_or s (length s - 1) 0

module _ (s : List ℕ) (h : c s < 256) (e : false ≡ white_bytes (c s ∷ [])) where
  two_of : (k : ℕ) → white_bytes (0xC2 ∷ k ∷ []) ≡ true → 2 ≤ length s → b s ≡ 0xC2 → c s ≡ k → (1 ≤ 2) × (2 ≡ white_size s)
  two_of k w n p q = size_2 s (got1 s (omega arith) e) (got2 s n (sym (rw (p, q) w)))

  three : 3 ≤ length s → (b s ≡ 0xC2 → ⊥) → white_bytes (a s ∷ b s ∷ c s ∷ []) ≡ true → (1 ≤ 3) × (3 ≡ white_size s)
  three n m w = size_3 s (got1 s (omega arith) e) (got2 s (omega arith) (sym (not_two (b s) (c s) m))) (got3 s n (sym w))

  pub u0085 : 2 ≤ length s → b s ≡ 0xC2 → c s ≡ 0x85 → (1 ≤ 2) × (2 ≡ white_size s)
  unfolding white_bytes whites encode when◌then◌else◌
  u0085 n p q = two_of 0x85 refl n p q

  pub u00a0 : 2 ≤ length s → b s ≡ 0xC2 → c s ≡ 0xA0 → (1 ≤ 2) × (2 ≡ white_size s)
  unfolding white_bytes whites encode when◌then◌else◌
  u00a0 n p q = two_of 0xA0 refl n p q

  pub u1680 : 3 ≤ length s → a s ≡ 0xE1 → b s ≡ 0x9A → c s ≡ 0x80 → (1 ≤ 3) × (3 ≡ white_size s)
  unfolding white_bytes whites encode when◌then◌else◌
  u1680 n p q r = three n (λ f. let z : ⊥ = omega (arith, f, q) in z) (rw (p, q, r) refl)

  pub u2028 : 3 ≤ length s → a s ≡ 0xE2 → b s ≡ 0x80 → c s ≡ 0xA8 → (1 ≤ 3) × (3 ≡ white_size s)
  unfolding white_bytes whites encode when◌then◌else◌
  u2028 n p q r = three n (λ f. let z : ⊥ = omega (arith, f, q) in z) (rw (p, q, r) refl)

  pub u2029 : 3 ≤ length s → a s ≡ 0xE2 → b s ≡ 0x80 → c s ≡ 0xA9 → (1 ≤ 3) × (3 ≡ white_size s)
  unfolding white_bytes whites encode when◌then◌else◌
  u2029 n p q r = three n (λ f. let z : ⊥ = omega (arith, f, q) in z) (rw (p, q, r) refl)

  pub u202f : 3 ≤ length s → a s ≡ 0xE2 → b s ≡ 0x80 → c s ≡ 0xAF → (1 ≤ 3) × (3 ≡ white_size s)
  unfolding white_bytes whites encode when◌then◌else◌
  u202f n p q r = three n (λ f. let z : ⊥ = omega (arith, f, q) in z) (rw (p, q, r) refl)

  pub u205f : 3 ≤ length s → a s ≡ 0xE2 → b s ≡ 0x81 → c s ≡ 0x9F → (1 ≤ 3) × (3 ≡ white_size s)
  unfolding white_bytes whites encode when◌then◌else◌
  u205f n p q r = three n (λ f. let z : ⊥ = omega (arith, f, q) in z) (rw (p, q, r) refl)

  pub u3000 : 3 ≤ length s → a s ≡ 0xE3 → b s ≡ 0x80 → c s ≡ 0x80 → (1 ≤ 3) × (3 ≡ white_size s)
  unfolding white_bytes whites encode when◌then◌else◌
  u3000 n p q r = three n (λ f. let z : ⊥ = omega (arith, f, q) in z) (rw (p, q, r) refl)

  pub u2000-to-200a : 3 ≤ length s → a s ≡ 0xE2 → b s ≡ 0x80 → 0x80 ≤ c s → c s ≤ 0x8A → (1 ≤ 3) × (3 ≡ white_size s)
  u2000-to-200a n p q l u =
      three n (λ f. let z : ⊥ = omega (arith, f, q) in z) (rw (p, q, e280 (c s) h, le-leb 0x80 _ l, le-leb _ 0x8A u))

  pub none : (2 ≤ length s → b s ≡ 0xC2 → c s ≡ 0x85 → ⊥) → (2 ≤ length s → b s ≡ 0xC2 → c s ≡ 0xA0 → ⊥)
      → (3 ≤ length s → a s ≡ 0xE2 → b s ≡ 0x80 → 0x80 ≤ c s → c s ≤ 0x8A → ⊥) → (3 ≤ length s → a s ≡ 0xE2 → b s ≡ 0x80 → c s ≡ 0xA8 → ⊥)
      → (3 ≤ length s → a s ≡ 0xE2 → b s ≡ 0x80 → c s ≡ 0xA9 → ⊥) → (3 ≤ length s → a s ≡ 0xE2 → b s ≡ 0x80 → c s ≡ 0xAF → ⊥)
      → (3 ≤ length s → a s ≡ 0xE2 → b s ≡ 0x81 → c s ≡ 0x9F → ⊥) → (3 ≤ length s → a s ≡ 0xE1 → b s ≡ 0x9A → c s ≡ 0x80 → ⊥)
      → (3 ≤ length s → a s ≡ 0xE3 → b s ≡ 0x80 → c s ≡ 0x80 → ⊥) → 1 ≤ length s → white_size s ≡ 0
  none p q r x y z t u v l = ⊎_elim more (λ n. none_1 s (omega (arith, n)) one) (le_or_lt 2 (length s))
    where
      one : white_bytes (last 1 s) ≡ false
      one = got1 s l e

      more : 2 ≤ length s → white_size s ≡ 0
      more n =
          let two = got2 s n (sym (no_two (b s) (c s) h (p n) (q n))) in
          ⊎_elim (λ m. none_3 s one two (got3 s m (sym (no_three (a s) (b s) (c s) h (r m) (x m) (y m) (z m) (t m) (u m) (v m)))))
          (λ m. none_2 s (omega (arith, m)) one two) (le_or_lt 3 (length s))

-- the White_Space characters of two and three bytes at an end, and none
pub ruleset ends = (none, none_0, u0085, u00a0, u1680, u2028, u2029, u202f, u205f, u3000, u2000-to-200a)
