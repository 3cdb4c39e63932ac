-- The open blocks in a draft's two words. Assumes nothing.
use Rattle.draft.proofs.Names.{ℕ, zero, suc, ◌+◌, ◌-◌, ◌*◌, ◌/◌, ◌%◌, ◌^◌, ◌≤◌, ◌<◌, ◌≡◌, refl, sym, ap, ap₂, ◌∙◌, subst, List, [], ◌∷◌, ◌++◌, ⊎_elim}
use Rattle.draft.proofs.Names.{length, get_or, length-append, mod-lt, arith, top, pushed, popped, le_or_lt, open_in, digits, Opens, Packed}
use lib.Pow.{pow_mono, pow-add}
use native.Mathlib.Nat.{div-add-mod', mod-eq_of_lt, mul-le-mul_left, mul-le-mul_right}
use Rattle.base.proofs.Stack.{length-pushed, popped-pushed}

pub length_open : (k n : ℕ) → length (open_in k n) ≡ k
unfolding open_in
length_open zero n = refl
length_open (suc k) n = omega (arith, length-pushed (n % 16) (open_in k (n / 16)), length_open k (n / 16))

get_d_end : (x : ℕ) (xs : List ℕ) → get_or (xs ++ x ∷ []) (length xs) 0 ≡ x
get_d_end x [] = refl
get_d_end x (y ∷ xs) = get_d_end x xs

pub top-pushed : (x : ℕ) (xs : List ℕ) → top (pushed x xs) ≡ x
unfolding top pushed
top-pushed x xs =
    let e : length (xs ++ x ∷ []) - 1 ≡ length xs = omega (arith, length-append xs (x ∷ [])) in
    ap (λ (n : ℕ). get_or (xs ++ x ∷ []) n 0) e ∙ get_d_end x xs

-- one digit more, and one less
module _ (n b : ℕ) (h : b < 16) where
  next_low : (16 * n + b) % 16 ≡ b
  next_low = omega (arith, div-add-mod' (16 * n + b) 16, mod-lt (16 * n + b) {m = 16} (omega arith))

  next-high : (16 * n + b) / 16 ≡ n
  next-high = omega (arith, div-add-mod' (16 * n + b) 16, mod-lt (16 * n + b) {m = 16} (omega arith))

open_push : (k n b : ℕ) → b < 16 → open_in (suc k) (16 * n + b) ≡ pushed b (open_in k n)
unfolding open_in
open_push k n b h = ap₂ (λ (x m : ℕ). pushed x (open_in k m)) (next_low n b h) (next-high n b h)

power_less : (k : ℕ) → k ≤ 31 → 2 ^ (4 * k) ≤ 0x1_0000_0000_0000_0000 * 0x1000_0000_0000_0000
power_less k h = pow_mono {i = 4 * k} {j = 124} (omega arith)

power_up : (k m : ℕ) → m ≡ k + 1 → 2 ^ (4 * m) ≡ 16 * 2 ^ (4 * k)
power_up k m e = let f : 4 * m ≡ 4 + 4 * k = omega arith in ap (λ (i : ℕ). 2 ^ i) f ∙ pow-add 2 4 (4 * k)

-- the outer word of a number below a product
outer_low : (w h i o p : ℕ) → i + w * o < p → p ≤ w * h → o < h
outer_low w h i o p l k =
    ⊎_elim (λ (j : h ≤ o). let z : ⊥ = omega (arith, mul-le-mul_left w j) in absurd z) (λ (j : o < h). j) (le_or_lt h o)

low_up : (m n p q b : ℕ) → m ≡ 16 * n + b → b < 16 → n < p → q ≡ 16 * p → m < q
low_up m n p q b e h l f = omega arith

low_down : (m n p q : ℕ) → m ≡ n / 16 → n < q → q ≡ 16 * p → m < p
low_down m n p q e l f = omega (arith, div-add-mod' n 16)

-- the two words, one digit further up
words_sum : (a q i o b : ℕ) → q * 0x1000_0000_0000_0000 + a ≡ i
    → a * 16 + b + 0x1_0000_0000_0000_0000 * (o * 16 + q) ≡ 16 * (i + 0x1_0000_0000_0000_0000 * o) + b
words_sum a q i o b e = omega arith

words_up : (i o b : ℕ) → o < 0x1000_0000_0000_0000
    → i % 0x1000_0000_0000_0000 * 16 + b + 0x1_0000_0000_0000_0000 * (o % 0x1000_0000_0000_0000 * 16 + i / 0x1000_0000_0000_0000)
    ≡ 16 * (i + 0x1_0000_0000_0000_0000 * o) + b
words_up i o b h =
    ap (λ (k : ℕ). i % 0x1000_0000_0000_0000 * 16 + b + 0x1_0000_0000_0000_0000 * (k * 16 + i / 0x1000_0000_0000_0000)) (mod-eq_of_lt h)
    ∙ words_sum (i % 0x1000_0000_0000_0000) (i / 0x1000_0000_0000_0000) i o b (div-add-mod' i 0x1000_0000_0000_0000)

-- and one further down
down_high : (i y : ℕ) → (i + 16 * y) / 16 ≡ i / 16 + y
down_high i y = omega (arith, div-add-mod' i 16, mod-lt i {m = 16} (omega arith), div-add-mod' (i + 16 * y) 16, mod-lt (i + 16 * y) {m = 16} (omega arith))

down_low : (i y : ℕ) → (i + 16 * y) % 16 ≡ i % 16
down_low i y = omega (arith, div-add-mod' i 16, mod-lt i {m = 16} (omega arith), div-add-mod' (i + 16 * y) 16, mod-lt (i + 16 * y) {m = 16} (omega arith))

word-is : (o : ℕ) → 0x1_0000_0000_0000_0000 * o ≡ 16 * (0x1000_0000_0000_0000 * o)
word-is o = omega arith

down_sum : (p c o : ℕ) → p * 16 + c ≡ o → c * 0x1000_0000_0000_0000 + 0x1_0000_0000_0000_0000 * p ≡ 0x1000_0000_0000_0000 * o
down_sum p c o e = omega arith

sum_right : (a b c d : ℕ) → b + c ≡ d → a + b + c ≡ a + d
sum_right a b c d e = omega arith

words_down : (i o : ℕ) → i / 16 + o % 16 * 0x1000_0000_0000_0000 + 0x1_0000_0000_0000_0000 * (o / 16) ≡ (i + 0x1_0000_0000_0000_0000 * o) / 16
words_down i o =
    sum_right (i / 16) _ _ _ (down_sum (o / 16) (o % 16) o (div-add-mod' o 16))
    ∙ sym (ap (λ (k : ℕ). (i + k) / 16) (word-is o) ∙ down_high i (0x1000_0000_0000_0000 * o))

words_low : (i o : ℕ) → (i + 0x1_0000_0000_0000_0000 * o) % 16 ≡ i % 16
words_low i o = ap (λ (k : ℕ). (i + k) % 16) (word-is o) ∙ down_low i (0x1000_0000_0000_0000 * o)

-- they fit

below : (h x r i : ℕ) → x * h + r ≡ i → i < 16 * h → x < 16
below h x r i e l =
    ⊎_elim (λ (j : 16 ≤ x). let z : ⊥ = omega (arith, mul-le-mul_right h j) in absurd z) (λ (j : x < 16). j) (le_or_lt 16 x)

module _ {d : Packed} {stack : List ℕ} (o : Opens d stack) where
  pub opens-length : length stack ≡ d.depth
  opens-length = ap length o.blocks ∙ length_open d.depth (digits d)

  -- a block is pushed
  pub opens-more : (b : ℕ) {r : Packed} → b < 16 → length stack < 32 → r.depth ≡ d.depth + 1
      → r.inner ≡ d.inner % 0x1000_0000_0000_0000 * 16 + b
      → r.outer ≡ d.outer % 0x1000_0000_0000_0000 * 16 + d.inner / 0x1000_0000_0000_0000 → Opens r (pushed b stack)
  opens-more b {r} h l e f g =
      let k : d.depth ≤ 31 = omega (arith, opens-length) in
      let j : d.outer < 0x1000_0000_0000_0000 =
      outer_low 0x1_0000_0000_0000_0000 _ d.inner d.outer (2 ^ (4 * d.depth)) o.low (power_less d.depth k) in
      let n : digits r ≡ 16 * digits d + b = ap₂ (λ (i q : ℕ). i + 0x1_0000_0000_0000_0000 * q) f g ∙ words_up d.inner d.outer b j in
      let s : r.depth ≡ suc d.depth = omega arith in
      record {
        shallow = omega arith;
        blocks = ap (pushed b) o.blocks ∙ sym (ap₂ open_in s n ∙ open_push d.depth (digits d) b h);
        low = low_up (digits r) (digits d) (2 ^ (4 * d.depth)) _ b n h o.low (power_up d.depth r.depth e);
      }

-- a stack with a block on it
split : (k n : ℕ) → 1 ≤ k → open_in k n ≡ pushed (n % 16) (open_in (k - 1) (n / 16))
unfolding open_in
split zero n h = let z : ⊥ = omega arith in absurd z
split (suc k) n h = let e : k ≡ suc k - 1 = omega arith in ap (λ (m : ℕ). pushed (n % 16) (open_in m (n / 16))) e

module _ {d : Packed} {stack : List ℕ} (o : Opens d stack) (h : 1 ≤ d.depth) where
  pub opens-top : top stack ≡ d.inner % 16
  opens-top = ap top (o.blocks ∙ split d.depth (digits d) h) ∙ top-pushed _ _ ∙ words_low d.inner d.outer

  -- it is popped
  pub opens_less : {r : Packed} → r.depth ≡ d.depth - 1 → r.inner ≡ d.inner / 16 + d.outer % 16 * 0x1000_0000_0000_0000 → r.outer ≡ d.outer / 16
      → Opens r (popped stack)
  opens_less {r} e f g =
      let n : digits r ≡ digits d / 16 = ap₂ (λ (i q : ℕ). i + 0x1_0000_0000_0000_0000 * q) f g ∙ words_down d.inner d.outer in
      record {
        shallow = omega (arith, o.shallow);
        blocks = ap popped (o.blocks ∙ split d.depth (digits d) h) ∙ popped-pushed _ _ ∙ sym (ap₂ open_in e n);
        low = low_down (digits r) (digits d) (2 ^ (4 * r.depth)) _ n o.low (power_up r.depth d.depth (omega arith));
      }

pub opens-none : {d : Packed} → d.depth ≡ 0 → d.inner ≡ 0 → d.outer ≡ 0 → Opens d []
unfolding open_in
opens-none {d} e f g =
    let n : digits d ≡ 0 = ap₂ (λ (i q : ℕ). i + 0x1_0000_0000_0000_0000 * q) f g in
    let z : 0 < 2 ^ (4 * 0) = omega arith in
    record {
      shallow = omega arith;
      blocks = sym (ap₂ open_in e n);
      low = subst (λ (m : ℕ). m < 2 ^ (4 * d.depth)) (sym n) (subst (λ (m : ℕ). 0 < 2 ^ (4 * m)) (sym e) z);
    }
