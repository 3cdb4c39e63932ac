-- What the masks of a vector's lanes say of its bytes. A lane that is computed from a byte is held to a test of bytes at each of the 256.
-- Assumes nothing.
use Rattle.utf8.proofs.Laws.{not_none, not_some}
use Rattle.utf8.specs.InnerParts.{Any}
use Rattle.utf8.proofs.Names.{◌≡◌, refl, ap, ap₂, sym, ◌∙◌, Bool, beq, true, false, ◌&&◌, ◌||◌, List, [], ◌∷◌, ◌++◌, ℕ, zero, suc, ◌+◌, ◌-◌, ◌*◌, ◌/◌, ◌%◌}
use Rattle.utf8.proofs.Names.{◌<◌, ◌≤◌, arith, eqb, eqb-true, eqb-false, leb, leb-false, not, get_or, length, take}
use Rattle.utf8.proofs.Names.{and_left, and_right, ⊎_elim, eq_or_not, le_or_lt}
use Rattle.std.proofs.Common.{◌^◌, map, reverse, replicate, cond, w8, Fits}
use Rattle.std.specs.List.{prefix_len, count_by}
use Rattle.std.proofs.lemmas.List.{length-map, take-map, take_all}
use native.Mathlib.Nat.{pow-zero, pow-suc, zero-mod, mod-one}
use Rattle.std.proofs.lemmas.List.{ext_get_or, get_or-map, get_or_append_left, get_or-reverse, length-reverse}
use lib.Arith.{mod-mul}
use Rattle.std.proofs.lemmas.Simd.{mask_l-mod, ones-mask_l, bitmask_splat, zip2_splat_left, tops_compared, get_or-zip2, length-zip2, zip2_splat, zip2_of_maps}
use lib.Count.{ones as count_ones}
use Rattle.std.proofs.lemmas.Nat.{pow_pos, and_le_l, and_le_r}
use Rattle.std.specs.Int.Bits.{or_add_and}
use Rattle.std.specs.Prelude.{min}
use lib.Bits.{bit_or}
use lib.Lanes.{zip2, mask_l, top, Each1}

-- every number below n passes p
abbrev pub upto : (ℕ → Bool) → ℕ → Bool
upto p zero = true
upto p (suc n) = p n && upto p n

pub beq_is : (a b : Bool) → beq a b ≡ true → a ≡ b
beq_is true true e = refl
beq_is false false e = refl
beq_is true false e = sym e
beq_is false true e = e

pub upto_sound : (p : ℕ → Bool) (n : ℕ) → upto p n ≡ true → (x : ℕ) → x < n → p x ≡ true
upto_sound p zero e x h = absurd (let z : ⊥ = omega arith in z)
upto_sound p (suc n) e x h =
    ⊎_elim (λ (q : x ≡ n). rw q (and_left (p n) (upto p n) e))
    (λ (q : x ≡ n → ⊥). upto_sound p n (and_right (p n) (upto p n) e) x (omega arith)) (eq_or_not x n)

-- the top bits of lanes f x are what p says of the bytes x
each_byte : (f : ℕ → ℕ) (p : ℕ → Bool) → upto (λ x. beq (top 7 (f x)) (p x)) 256 ≡ true → (v : List ℕ) → Each1 (Fits w8) v
    → map (top 7) (map f v) ≡ map p v
each_byte f p all [] fits = refl
each_byte f p all (x ∷ xs) fits =
    ap₂ (λ a b. a ∷ b) (beq_is _ _ (upto_sound (λ y. beq (top 7 (f y)) (p y)) 256 all x fits.0.fits)) (each_byte f p all xs fits.1)

pub masked : (f : ℕ → ℕ) (p : ℕ → Bool) (v z : List ℕ) → length v ≤ 64 → Each1 (Fits w8) v → z ≡ map f v
    → upto (λ x. beq (top 7 (f x)) (p x)) 256 ≡ true → mask_l (map (top 7) z) % 2 ^ 64 ≡ mask_l (map p v)
masked f p v z short fits e all =
    ap (λ l. mask_l l % 2 ^ 64) (ap (map (top 7)) e ∙ each_byte f p all v fits) ∙ mask_l-mod (map p v) 64 (omega (arith, length-map v p))

-- the lanes that are one of two bytes
abbrev pub hit : ℕ → ℕ → ℕ
hit x y = cond (eqb x y) 255 0

or_hits : (s t : Bool) → top 7 (bit_or (cond s 255 0) (cond t 255 0)) ≡ (s || t)
or_hits true true = refl
or_hits true false = refl
or_hits false true = refl
or_hits false false = refl

each_hit : (a b : ℕ) (v : List ℕ) → map (top 7) (map (λ x. bit_or (hit x a) (hit x b)) v) ≡ map (λ x. eqb x a || eqb x b) v
each_hit a b [] = refl
each_hit a b (x ∷ xs) = ap₂ (λ s r. s ∷ r) (or_hits (eqb x a) (eqb x b)) (each_hit a b xs)

pub two_marked : (a b n : ℕ) (v : List ℕ) → length v ≡ n → n ≤ 64
    → mask_l (map (top 7) (zip2 bit_or (zip2 hit v (replicate n a)) (zip2 hit v (replicate n b)))) % 2 ^ 64 ≡ mask_l (map (λ x. eqb x a || eqb x b) v)
two_marked a b n v long short =
    let lanes = zip2_of_maps bit_or (λ x. hit x a) (λ x. hit x b) v (zip2_splat hit v n a long) (zip2_splat hit v n b long) in
    ap (λ l. mask_l l % 2 ^ 64) (ap (map (top 7)) lanes ∙ each_hit a b v)
    ∙ mask_l-mod (map (λ x. eqb x a || eqb x b) v) 64 (omega (arith, length-map v (λ x. eqb x a || eqb x b)))

-- the lowest bits of a mask are the first lanes
low_bit : (m : Bool) (r p : ℕ) → 0 < p → (cond m 1 0 + 2 * r) % (p * 2) ≡ cond m 1 0 + 2 * (r % p)
low_bit true r p h = let q : (1 + 2 * r) / 2 ≡ r = omega arith in mod-mul (1 + 2 * r) h (omega arith) ∙ rw q (omega arith)
low_bit false r p h = let q : (0 + 2 * r) / 2 ≡ r = omega arith in mod-mul (0 + 2 * r) h (omega arith) ∙ rw q (omega arith)

pub mask_take : (ms : List Bool) (k : ℕ) → mask_l ms % 2 ^ k ≡ mask_l (take k ms)
mask_take [] zero = refl
mask_take [] (suc k) = zero-mod (2 ^ suc k)
mask_take (m ∷ ms) zero = ap (λ n. mask_l (m ∷ ms) % n) (pow-zero 2) ∙ mod-one (mask_l (m ∷ ms))
mask_take (m ∷ ms) (suc k) =
    ap (λ n. mask_l (m ∷ ms) % n) (pow-suc 2 k) ∙ low_bit m (mask_l ms) (2 ^ k) (pow_pos k) ∙ ap (λ r. cond m 1 0 + 2 * r) (mask_take ms k)

module _ (p : ℕ → Bool) where
  pub count_front : (v : List ℕ) (k : ℕ) → count_ones (mask_l (map p v) % 2 ^ k) ≡ count_by p (take k v)
  count_front v k = ap count_ones (mask_take (map p v) k ∙ ap mask_l (take-map p k v)) ∙ ones-mask_l p (take k v)

  -- a run within the first bytes
  pub run_within : (xs : List ℕ) (m : ℕ) → prefix_len p (take m xs) ≡ min (prefix_len p xs) m
  run_within [] zero = omega arith
  run_within [] (suc m) = omega arith
  run_within (x ∷ xs) zero = omega arith
  run_within (x ∷ xs) (suc m) = go (p x) (run_within xs m)
    where
      go : (b : Bool) → prefix_len p (take m xs) ≡ min (prefix_len p xs) m
          → cond b (1 + prefix_len p (take m xs)) 0 ≡ min (cond b (1 + prefix_len p xs) 0) (suc m)
      go true e = omega arith
      go false e = omega arith

-- which lanes are set
none_set : (p : ℕ → Bool) (v : List ℕ) → mask_l (map p v) ≡ 0 → (k : ℕ) → k < length v → p (get_or v k 0) ≡ false
none_set p [] e k h = absurd (let z : ⊥ = omega arith in z)
none_set p (x ∷ xs) e zero h = go (p x) e
  where
    go : (b : Bool) → cond b 1 0 + 2 * mask_l (map p xs) ≡ 0 → b ≡ false
    go true e = absurd (let z : ⊥ = omega arith in z)
    go false e = refl
none_set p (x ∷ xs) e (suc k) h = none_set p xs (omega arith) k (omega arith)

one_set : (p : ℕ → Bool) (v : List ℕ) → 0 < mask_l (map p v) → (k : ℕ) × (k < length v) × (p (get_or v k 0) ≡ true)
one_set p [] h = absurd (let z : ⊥ = omega arith in z)
one_set p (x ∷ xs) h = go (p x) refl h (one_set p xs)
  where
    go : (b : Bool) → p x ≡ b → 0 < cond b 1 0 + 2 * mask_l (map p xs)
        → (0 < mask_l (map p xs) → (k : ℕ) × (k < length xs) × (p (get_or xs k 0) ≡ true)) → (k : ℕ) × (k < length (x ∷ xs)) × (p (get_or (x ∷ xs) k 0) ≡ true)
    go true e h r = (0, omega arith, e)
    go false e h r = let i = r (omega arith) in (suc i.0, omega (arith, i.1), i.2)

-- a lane that is not 0
abbrev nonzero : ℕ → Bool
nonzero x = not (eqb x 0)

abbrev pub differs : ℕ → ℕ → ℕ
differs a b = cond (not (eqb a b)) 255 0

module _ (v : List ℕ) (long : length v ≡ 16) where
  bits_of : mask_l (map (top 7) (zip2 differs v (replicate 16 0))) % 2 ^ 64 ≡ mask_l (map nonzero v)
  bits_of = bitmask_splat w8 (λ a b. not (eqb a b)) v 16 0 long (omega arith)

  all_zero : not (eqb (mask_l (map (top 7) (zip2 differs v (replicate 16 0))) % 2 ^ 64) 0) ≡ false → (k : ℕ) → k < 16 → get_or v k 0 ≡ 0
  all_zero e k h =
      let m : mask_l (map nonzero v) ≡ 0 = sym bits_of ∙ eqb-true _ 0 (not_some _ e) in
      eqb-true (get_or v k 0) 0 (not_some _ (none_set nonzero v m k (omega (arith, long))))

  one_nonzero : not (eqb (mask_l (map (top 7) (zip2 differs v (replicate 16 0))) % 2 ^ 64) 0) ≡ true → (k : ℕ) × (k < 16) × (get_or v k 0 ≡ 0 → ⊥)
  one_nonzero e =
      let n = eqb-false _ 0 (not_none _ e) in
      let r = one_set nonzero v (omega (arith, bits_of, n)) in
      (r.0, omega (arith, r.1, long), eqb-false (get_or v r.0 0) 0 (not_none _ r.2))

  pub any_of : Any v (not (eqb (mask_l (map (top 7) (zip2 differs v (replicate 16 0))) % 2 ^ 64) 0))
  any_of = record { none = all_zero; one = one_nonzero }

-- as many bytes as there are
pub take_most : (v : List ℕ) (n k : ℕ) → k ≡ min n (length v) → take k v ≡ take n v
take_most v n k e = ⊎_elim
    (λ (h : n ≤ length v). let q : k ≡ n = omega arith in ap (λ (m : ℕ). take m v) q)
    (λ (h : length v < n). let q : k ≡ length v = omega arith in
    ap (λ (m : ℕ). take m v) q ∙ take_all (length v) v (omega arith) ∙ sym (take_all n v (omega arith)))
    (le_or_lt n (length v))

-- the lanes in the other order
abbrev pub places : List ℕ
places = 15 ∷ 14 ∷ 13 ∷ 12 ∷ 11 ∷ 10 ∷ 9 ∷ 8 ∷ 7 ∷ 6 ∷ 5 ∷ 4 ∷ 3 ∷ 2 ∷ 1 ∷ 0 ∷ []

places_are : upto (λ i. eqb (get_or places i 0) (15 - i)) 16 ≡ true
places_are = refl

pub reversed : (v : List ℕ) → length v ≡ 16 → map (λ k. get_or (v ++ v) k 0) places ≡ reverse v
reversed v long =
    ext_get_or 0 _ _ (sym (length-reverse v ∙ long)) (λ i h.
    let at : get_or places i 0 ≡ 15 - i = eqb-true _ _ (upto_sound (λ j. eqb (get_or places j 0) (15 - j)) 16 places_are i h) in
    let e : length v - 1 - i ≡ 15 - i = omega (arith, long) in
    get_or-map (λ k. get_or (v ++ v) k 0) places i 0 0 h ∙ ap (λ (k : ℕ). get_or (v ++ v) k 0) at ∙ get_or_append_left v v 0 (15 - i) (omega (arith, long))
    ∙ ap (λ (k : ℕ). get_or v k 0) (sym e) ∙ sym (get_or-reverse v i 0 (omega (arith, long))))

-- the front of a front
pub take_front : (n m : ℕ) (l : List ℕ) → n ≤ m → take n (take m l) ≡ take n l
take_front zero m l h = refl
take_front (suc n) zero l h = absurd (let z : ⊥ = omega arith in z)
take_front (suc n) (suc m) [] h = refl
take_front (suc n) (suc m) (x ∷ l) h = ap (λ (r : List ℕ). x ∷ r) (take_front n m l (omega arith))

-- two vectors of ASCII
abbrev pub least : ℕ → ℕ → ℕ
least a b = cond (leb a b) 255 0

or_least : (a b : ℕ) → bit_or a b < 128 → (a < 128) × (b < 128)
or_least a b h = (omega (arith, or_add_and a b, and_le_r a b), omega (arith, or_add_and a b, and_le_l a b))

-- lanes of which none is 128 or more
pub all_low : (v : List ℕ) → length v ≡ 16 → eqb (mask_l (map (top 7) (zip2 least (replicate 16 128) v)) % 2 ^ 64) 0 ≡ true → (k : ℕ) → k < 16
    → get_or v k 0 < 0x80
all_low v long e k h =
    let bits : mask_l (map (top 7) (zip2 least (replicate 16 128) v)) % 2 ^ 64 ≡ mask_l (map (leb 128) v) =
    ap (λ l. mask_l l % 2 ^ 64) (tops_compared w8 leb (replicate 16 128) v ∙ zip2_splat_left leb 128 16 v long)
    ∙ mask_l-mod (map (leb 128) v) 64 (omega (arith, length-map v (leb 128), long)) in
    leb-false 128 (get_or v k 0) (none_set (leb 128) v (sym bits ∙ eqb-true _ 0 e) k (omega (arith, long)))

pub both_low : (v w : List ℕ) → length v ≡ 16 → length w ≡ 16
    → eqb (mask_l (map (top 7) (zip2 least (replicate 16 128) (zip2 bit_or v w))) % 2 ^ 64) 0 ≡ true → (k : ℕ) → k < 16
    → (get_or v k 0 < 0x80) × (get_or w k 0 < 0x80)
both_low v w lv lw e k h =
    let low = all_low (zip2 bit_or v w) (length-zip2 bit_or v w (lv ∙ sym lw) ∙ lv) e k h in
    let is : get_or (zip2 bit_or v w) k 0 ≡ bit_or (get_or v k 0) (get_or w k 0) = get_or-zip2 bit_or v w k 0 0 0 (omega (arith, lv)) (omega (arith, lw)) in
    or_least (get_or v k 0) (get_or w k 0) (omega (arith, is, low))
