-- Of each two neighbouring bytes the three tables say what `follows` and `go_on` say, computed at each first byte and each upper half of a second; and so the
-- lanes of a block say which of its bytes may stand after the three before them.
-- Assumes nothing.
use Rattle.utf8.proofs.Names.{◌≡◌, refl, ap, ap₂, sym, ◌∙◌, ⊎_elim, Bool, beq, true, false, not, ◌&&◌, List, [], ◌∷◌, ℕ, zero, suc, ◌+◌, ◌-◌, ◌*◌, ◌/◌, ◌%◌}
use Rattle.utf8.proofs.Names.{◌<◌, ◌≤◌, arith, eqb, leb, length, get_or, and_left, and_right, pick, le_or_lt}
use Rattle.utf8.proofs.Names.{when◌then◌else◌, ltb-true, or-true, le-leb, lt-leb, continues, low, high}
use Rattle.utf8.proofs.Names.{Classes, Lanes}
use Rattle.base.specs.Choice.{among}
use Rattle.utf8.specs.InnerNeighbours.{under_way, follows, go_on, beside}
use Rattle.utf8.specs.declared.TheConstants.{FIRST_HIGH, FIRST_LOW, SECOND_HIGH}
use Rattle.std.proofs.Common.{◌^◌, map, replicate, cond, w8, Fits, ltb, ltb-false}
use Rattle.std.proofs.lemmas.List.{length-map, get_or-map, ext_get_or}
use Rattle.std.proofs.lemmas.Simd.{Each1-get_or, Each1-from_get_or, get_or-zip2, length-zip2, map-map, length-chunk, get_or-chunk}
use Rattle.std.proofs.lemmas.Simd.{get_or-replicate, SwzOk, SwzOk-from_below, swz_l}
use Rattle.std.proofs.lemmas.Simd.{length-swz_l, get_or-swz_l_below}
use Rattle.std.proofs.lemmas.Nat.Bits.{and_pow, bit_at_or}
use Rattle.std.specs.Int.Bits.{xor_zero_l}
use Rattle.std.proofs.lemmas.Nat.{and_le_r}
use lib.Bits.{bit_and, bit_or, bit_xor}
use lib.Lanes.{zip2, sel_l, top, chunk, Each1}
use Rattle.utf8.proofs.Lanes.{upto, upto_sound, beq_is}
use Rattle.utf8.proofs.Neighbours.{beside_open, beside_closed}

-- a table at some places
pub look_ok : (js : List ℕ) → length js ≡ 16 → ((k : ℕ) → k < 16 → get_or js k 0 < 16) → SwzOk w8 16 16 0 js
look_ok js long small =
    SwzOk-from_below w8 16 1 16 0 js refl (omega (arith, long)) (Each1-from_get_or (λ j. j < 16) js 0 (λ i h. small i (omega (arith, long))))

pub looked_up : (t js : List ℕ) → length js ≡ 16 → ((k : ℕ) → k < 16 → get_or js k 0 < 16) → swz_l w8 16 t 0 js ≡ map (λ j. get_or t j 0) js
looked_up t js long small =
    ext_get_or 0 _ _ (length-swz_l w8 16 t 0 js ∙ sym (length-map js (λ j. get_or t j 0))) (λ i h.
    let l : i < length js = omega (arith, length-swz_l w8 16 t 0 js) in
    let e : 16 * ((0 + i) / 16) + get_or js i 0 ≡ get_or js i 0 = omega (arith, long) in
    get_or-swz_l_below w8 16 t 0 js i l (small i (omega (arith, long))) ∙ ap (λ (n : ℕ). get_or t n 0) e ∙ sym (get_or-map (λ j. get_or t j 0) js i 0 0 l))

-- a difference that is 0 where there is none
abbrev pub less : ℕ → ℕ → ℕ
less a b = (a + (2 ^ 8 - b)) % 2 ^ 8

abbrev pub below : ℕ → ℕ → ℕ
below a b = cond (ltb a b) 255 0

less_is : (a b : ℕ) → a < 256 → b < 256 → less (cond (top 7 (below a b)) b a) b ≡ a - b
less_is a b g h = go (ltb a b) refl
  where
    go : (t : Bool) → ltb a b ≡ t → less (cond (top 7 (cond t 255 0)) b a) b ≡ a - b
    go true e = omega (arith, ltb-true a b e)
    go false e = omega (arith, ltb-false a b e)

pub less_splat : (y : ℕ) → y < 256 → (v : List ℕ) (n : ℕ) → length v ≡ n → Each1 (Fits w8) v
    → zip2 less (sel_l (map (top 7) (zip2 below v (replicate n y))) (replicate n y) v) (replicate n y) ≡ map (λ x. x - y) v
less_splat y h [] n e f = refl
less_splat y h (x ∷ xs) zero e f = absurd (let z : ⊥ = omega arith in z)
less_splat y h (x ∷ xs) (suc n) e f = ap₂ (λ a b. a ∷ b) (less_is x y f.0.fits h) (less_splat y h xs n (omega arith) f.1)

-- what the three tables say of a byte and the one after it
abbrev pub class : ℕ → ℕ → ℕ
class p b = bit_and (bit_and (get_or FIRST_HIGH (p / 16) 0) (get_or FIRST_LOW (bit_and p 15) 0)) (get_or SECOND_HIGH (b / 16) 0)

abbrev agrees : ℕ → ℕ → Bool
agrees p h = beq (eqb (class p (h * 16)) 0) (follows p (h * 16)) && beq (eqb (bit_xor 128 (class p (h * 16))) 0) (go_on p (h * 16))

computed : upto (λ p. upto (agrees p) 16) 256 ≡ true
unfolding low high when◌then◌else◌
computed = refl

-- a bound that is a multiple of 16 is met as by the upper half
from_half : (k b : ℕ) → leb (k * 16) b ≡ leb (k * 16) (b / 16 * 16)
from_half k b =
    ⊎_elim (λ (g : k * 16 ≤ b). le-leb (k * 16) b g ∙ sym (le-leb (k * 16) (b / 16 * 16) (omega arith)))
    (λ (g : b < k * 16). lt-leb (k * 16) b g ∙ sym (lt-leb (k * 16) (b / 16 * 16) (omega arith))) (le_or_lt (k * 16) b)

to_half : (k b : ℕ) → leb b (k * 16 + 15) ≡ leb (b / 16 * 16) (k * 16 + 15)
to_half k b =
    ⊎_elim (λ (g : k * 16 + 16 ≤ b). lt-leb b (k * 16 + 15) (omega arith) ∙ sym (lt-leb (b / 16 * 16) (k * 16 + 15) (omega arith)))
    (λ (g : b < k * 16 + 16). le-leb b (k * 16 + 15) (omega arith) ∙ sym (le-leb (b / 16 * 16) (k * 16 + 15) (omega arith))) (le_or_lt (k * 16 + 16) b)

continues_half : (b : ℕ) → continues b ≡ continues (b / 16 * 16)
continues_half b = rw (from_half 8 b, to_half 11 b)

low_half : (p b : ℕ) → leb (low p) b ≡ leb (low p) (b / 16 * 16)
unfolding low
low_half p b =
    pick (λ x. leb x b ≡ leb x (b / 16 * 16)) _ (λ _. from_half 10 b)
    (λ _. pick (λ x. leb x b ≡ leb x (b / 16 * 16)) _ (λ _. from_half 9 b) (λ _. from_half 8 b))

high_half : (p b : ℕ) → leb b (high p) ≡ leb (b / 16 * 16) (high p)
unfolding high
high_half p b =
    pick (λ x. leb b x ≡ leb (b / 16 * 16) x) _ (λ _. to_half 9 b)
    (λ _. pick (λ x. leb b x ≡ leb (b / 16 * 16) x) _ (λ _. to_half 8 b) (λ _. to_half 11 b))

follows_half : (p b : ℕ) → follows p b ≡ follows p (b / 16 * 16)
follows_half p b =
    let range : among (low p) (high p) b ≡ among (low p) (high p) (b / 16 * 16) = ap₂ (λ x y. x && y) (low_half p b) (high_half p b) in
    ap₂ (λ x y. when ltb p 0xC0 then not x else among 0xC2 0xF4 p && y) (continues_half b) range

module _ (p b : ℕ) (g : p < 256) (h : b < 256) where
  same_class : class p (b / 16 * 16) ≡ class p b
  same_class = let e : b / 16 * 16 / 16 ≡ b / 16 = omega arith in rw e

  both : agrees p (b / 16) ≡ true
  both = upto_sound (agrees p) 16 (upto_sound (λ x. upto (agrees x) 16) 256 computed p g) (b / 16) (omega arith)

  follow_class : eqb (class p b) 0 ≡ follows p b
  follow_class =
      ap (λ n. eqb n 0) (sym same_class) ∙ beq_is _ _ (and_left _ _ both) ∙ sym (follows_half p b)

  go_class : eqb (bit_xor 128 (class p b)) 0 ≡ go_on p b
  go_class =
      let half : go_on p b ≡ go_on p (b / 16 * 16) = ap (λ x. continues p && x) (continues_half b) in
      ap (λ n. eqb (bit_xor 128 n) 0) (sym same_class) ∙ beq_is _ _ (and_right _ _ both) ∙ sym half

-- the bit that says that a character goes on
late : (q r : ℕ) → q < 256 → r < 256 → bit_and (bit_or (q - 96) (r - 112)) 128 ≡ cond (under_way r q) 128 0
late q r g h =
    let a = and_pow (bit_or (q - 96) (r - 112)) 7 in
    let o = bit_at_or (q - 96) (r - 112) 7 in
    ⊎_elim
    (λ (k : 0xF0 ≤ r).
    let u : under_way r q ≡ true = simp (le-leb 0xF0 r k, or-true) in
    rw u (omega (arith, a, o)))
    (λ (k : r < 0xF0). ⊎_elim
    (λ (l : 0xE0 ≤ q).
    let u : under_way r q ≡ true = rw (le-leb 0xE0 q l) in
    rw u (omega (arith, a, o)))
    (λ (l : q < 0xE0).
    let u : under_way r q ≡ false = rw (lt-leb 0xE0 q l, lt-leb 0xF0 r k) in
    rw u (omega (arith, a, o)))
    (le_or_lt 0xE0 q)) (le_or_lt 0xF0 r)

-- a lane of a block
module _ (r q p b c : ℕ) (f : r < 256) (g : q < 256) (e : eqb c 0 ≡ follows p b) (d : eqb (bit_xor 128 c) 0 ≡ go_on p b) where
  pub lane_is : eqb (bit_xor (bit_and (bit_or (q - 96) (r - 112)) 128) c) 0 ≡ beside r q p b
  lane_is = go (under_way r q) refl
    where
      go : (u : Bool) → under_way r q ≡ u → eqb (bit_xor (bit_and (bit_or (q - 96) (r - 112)) 128) c) 0 ≡ beside r q p b
      go true u = rw (late q r g f, u) (d ∙ sym (beside_open r q p b u))
      go false u = rw (late q r g f, u, xor_zero_l c) (e ∙ sym (beside_closed r q p b u))

-- three tables of 16, looked up at the halves of two vectors
module _ (p b x y z : List ℕ) (lp : length p ≡ 16) (lb : length b ≡ 16) (fp : Each1 (Fits w8) p) (fb : Each1 (Fits w8) b)
    (ex : x ≡ map (λ j. get_or FIRST_HIGH j 0) (map (λ a. a / 16) p)) (ey : y ≡ map (λ j. get_or FIRST_LOW j 0) (map (λ a. bit_and a 15) p))
    (ez : z ≡ map (λ j. get_or SECOND_HIGH j 0) (map (λ a. a / 16) b)) where
  looked : (t : List ℕ) (f : ℕ → ℕ) (v w : List ℕ) → length v ≡ 16 → w ≡ map (λ j. get_or t j 0) (map f v)
      → (length w ≡ 16) × ((k : ℕ) → k < 16 → get_or w k 0 ≡ get_or t (f (get_or v k 0)) 0)
  looked t f v w l e =
      let m = e ∙ map-map (λ j. get_or t j 0) f v in
      (ap length m ∙ length-map v (λ a. get_or t (f a) 0) ∙ l, λ k h. ap (λ u. get_or u k 0) m ∙ get_or-map (λ a. get_or t (f a) 0) v k 0 0 (omega (arith, l)))

  all_three : (k : ℕ) → k < 16 → get_or (zip2 bit_and (zip2 bit_and x y) z) k 0 ≡ class (get_or p k 0) (get_or b k 0)
  all_three k h =
      let a = looked FIRST_HIGH (λ a. a / 16) p x lp ex in
      let c = looked FIRST_LOW (λ a. bit_and a 15) p y lp ey in
      let d = looked SECOND_HIGH (λ a. a / 16) b z lb ez in
      let two : length (zip2 bit_and x y) ≡ 16 = length-zip2 bit_and x y (a.0 ∙ sym c.0) ∙ a.0 in
      get_or-zip2 bit_and (zip2 bit_and x y) z k 0 0 0 (omega (arith, two)) (omega (arith, d.0))
      ∙ ap₂ bit_and (get_or-zip2 bit_and x y k 0 0 0 (omega (arith, a.0)) (omega (arith, c.0)) ∙ ap₂ bit_and (a.1 k h) (c.1 k h)) (d.1 k h)

  pub classes_are : Classes p b (zip2 bit_and (zip2 bit_and x y) z)
  classes_are =
      let a = looked FIRST_HIGH (λ a. a / 16) p x lp ex in
      let c = looked FIRST_LOW (λ a. bit_and a 15) p y lp ey in
      let d = looked SECOND_HIGH (λ a. a / 16) b z lb ez in
      let two : length (zip2 bit_and x y) ≡ 16 = length-zip2 bit_and x y (a.0 ∙ sym c.0) ∙ a.0 in
      let fit = λ (v : List ℕ) (l : length v ≡ 16) (f : Each1 (Fits w8) v) (k : ℕ) (h : k < 16).
      (Each1-get_or (Fits w8) v k 0 (omega (arith, l)) f).fits in record {
        long = length-zip2 bit_and (zip2 bit_and x y) z (two ∙ sym d.0) ∙ two;
        follow = λ k h. ap (λ n. eqb n 0) (all_three k h) ∙ follow_class (get_or p k 0) (get_or b k 0) (fit p lp fp k h) (fit b lb fb k h);
        goes = λ k h. ap (λ n. eqb (bit_xor 128 n) 0) (all_three k h) ∙ go_class (get_or p k 0) (get_or b k 0) (fit p lp fp k h) (fit b lb fb k h);
      }

-- halves lie below 16
pub high_small : (v w : List ℕ) → length v ≡ 16 → Each1 (Fits w8) v → w ≡ map (λ x. x / 16) v → (k : ℕ) → k < 16 → get_or w k 0 < 16
high_small v w l f e k h =
    let x : get_or w k 0 ≡ get_or v k 0 / 16 = ap (λ u. get_or u k 0) e ∙ get_or-map (λ x. x / 16) v k 0 0 (omega (arith, l)) in
    omega (arith, x, (Each1-get_or (Fits w8) v k 0 (omega (arith, l)) f).fits)

pub low_small : (v w : List ℕ) → length v ≡ 16 → w ≡ map (λ x. bit_and x 15) v → (k : ℕ) → k < 16 → get_or w k 0 < 16
low_small v w l e k h =
    let x : get_or w k 0 ≡ bit_and (get_or v k 0) 15 = ap (λ u. get_or u k 0) e ∙ get_or-map (λ x. bit_and x 15) v k 0 0 (omega (arith, l)) in
    omega (arith, x, and_le_r (get_or v k 0) 15)

-- the lanes of the bytes of s from `at` on
module _ (s : List ℕ) (at : ℕ) (g : 3 ≤ at) (room : at + 16 ≤ length s) (fits : (k : ℕ) → get_or s k 0 < 256) where
  byte : (i k : ℕ) → i ≤ at → k < 16 → get_or (chunk (at - i) 16 s) k 0 ≡ get_or s (at + k - i) 0
  byte i k h l = let e : at - i + k ≡ at + k - i = omega arith in get_or-chunk (at - i) 16 s k 0 l ∙ ap (λ (n : ℕ). get_or s n 0) e

  part_long : (i : ℕ) → i ≤ at → length (chunk (at - i) 16 s) ≡ 16
  part_long i h = length-chunk (at - i) 16 s (omega arith)

  module _ (third fourth cl : List ℕ) (et : third ≡ map (λ x. x - 96) (chunk (at - 2) 16 s)) (ef : fourth ≡ map (λ x. x - 112) (chunk (at - 3) 16 s))
      (ec : Classes (chunk (at - 1) 16 s) (chunk at 16 s) cl) where
    less_at : (i y k : ℕ) (w : List ℕ) → i ≤ at → k < 16 → w ≡ map (λ x. x - y) (chunk (at - i) 16 s) → get_or w k 0 ≡ get_or s (at + k - i) 0 - y
    less_at i y k w h l e =
        ap (λ u. get_or u k 0) e ∙ get_or-map (λ x. x - y) (chunk (at - i) 16 s) k 0 0 (omega (arith, part_long i h)) ∙ ap (λ x. x - y) (byte i k h l)

    less_long : (i y : ℕ) (w : List ℕ) → i ≤ at → w ≡ map (λ x. x - y) (chunk (at - i) 16 s) → length w ≡ 16
    less_long i y w h e = ap length e ∙ length-map (chunk (at - i) 16 s) (λ x. x - y) ∙ part_long i h

    abbrev either : List ℕ
    either = zip2 bit_and (zip2 bit_or third fourth) (replicate 16 128)

    or_long : length (zip2 bit_or third fourth) ≡ 16
    or_long =
        length-zip2 bit_or third fourth (less_long 2 96 third (omega arith) et ∙ sym (less_long 3 112 fourth (omega arith) ef))
        ∙ less_long 2 96 third (omega arith) et

    either_long : length either ≡ 16
    either_long = length-zip2 bit_and (zip2 bit_or third fourth) (replicate 16 128) or_long ∙ or_long

    either_at : (k : ℕ) → k < 16 → get_or either k 0 ≡ bit_and (bit_or (get_or s (at + k - 2) 0 - 96) (get_or s (at + k - 3) 0 - 112)) 128
    either_at k h =
        get_or-zip2 bit_and (zip2 bit_or third fourth) (replicate 16 128) k 0 0 0 (omega (arith, or_long)) h
        ∙ ap₂ bit_and
        (get_or-zip2 bit_or third fourth k 0 0 0 (omega (arith, less_long 2 96 third (omega arith) et)) (omega (arith, less_long 3 112 fourth (omega arith) ef))
        ∙ ap₂ bit_or (less_at 2 96 k third (omega arith) h et) (less_at 3 112 k fourth (omega arith) h ef))
        (get_or-replicate 16 k 128 0 h)

    pub lanes_are : Lanes s at (zip2 bit_xor either cl)
    lanes_are = record {
      long = length-zip2 bit_xor either cl (either_long ∙ sym ec.long) ∙ either_long;
      each = λ k h.
          let p = byte 1 k (omega arith) h in
          let b : get_or (chunk at 16 s) k 0 ≡ get_or s (at + k) 0 = get_or-chunk at 16 s k 0 h in
          ap (λ n. eqb n 0)
          (get_or-zip2 bit_xor either cl k 0 0 0 (omega (arith, either_long)) (omega (arith, ec.long)) ∙ ap (λ n. bit_xor n (get_or cl k 0)) (either_at k h))
          ∙ lane_is (get_or s (at + k - 3) 0) (get_or s (at + k - 2) 0) (get_or s (at + k - 1) 0) (get_or s (at + k) 0) (get_or cl k 0) (fits (at + k - 3))
          (fits (at + k - 2)) (ec.follow k h ∙ ap₂ follows p b) (ec.goes k h ∙ ap₂ go_on p b);
    }
