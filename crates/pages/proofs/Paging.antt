-- Refusals 20 and 21, the page count, and where a page stands. Assumes nothing.
use Rattle.pages.proofs.Names.{ℕ, zero, suc, ◌+◌, ◌-◌, ◌*◌, ◌≤◌, ◌<◌, ◌≡◌, refl, sym, ap, ap₂, ◌∙◌, subst, true, false, ⊎_elim, List, [], length}
use Rattle.pages.proofs.Names.{leb, leb-true, and_left, and_right}
use Rattle.pages.proofs.Names.{take, drop, length-drop, mul_comm, div-mul-le_self, lt-div-mul-add, arith, among, and_both, le_or_lt, gives_same, rows}
use Rattle.std.specs.Int.{div_ceil}
use Rattle.std.proofs.Common.{◌%◌}
use Prim.Native.Nat.{min}
use Rattle.std.proofs.lemmas.Nat.{div-mul-add}
use Rattle.pages.proofs.Names.{joined, pages_in, allowed, rows_before, page_of, page_start, page_count, shown, bytes_of, ◌/◌, mul-suc, div-eq_of_lt}
use Rattle.pages.proofs.Names.{le-div_iff_mul-le, div-lt_iff_lt-mul, mul-le-mul_left, le-leb, lt-leb, if_true, if_false, refused-gives}
use Rattle.base.specs.Result.{Result, gives, refused, ◌>>=◌, measured}
use Rattle.refusal.specs.declared.Refusal.{Refusal}
use Rattle.pages.specs.Answers.{start_of, size_of}
use Rattle.std.specs.Prelude.{Ok, Err}
use Rattle.std.specs.Prelude.{Result as Answer}
use Rattle.pages.specs.declared.Part.{Part}
use Rattle.pages.proofs.Rows.{bytes_all, bytes_less, bytes-within, rows_few, rows-after, joined_front}

-- Tests

among_in : (low high n : ℕ) → low ≤ n → n ≤ high → among low high n ≡ true
among_in low high n h g = and_both (le-leb low n h) (le-leb n high g)

among_below : (low high n : ℕ) → n < low → among low high n ≡ false
among_below low high n h = rw (lt-leb low n h)

among_over : (low high n : ℕ) → low ≤ n → high < n → among low high n ≡ false
among_over low high n h g = rw (le-leb low n h, lt-leb n high g)

pub allowed_in : (height : ℕ) → 1 ≤ height → height ≤ 200 → allowed height ≡ gives height
unfolding allowed
allowed_in height h g = if_true _ _ (among_in 1 200 height h g)

-- what the test of a height says
pub not-allowed : (height : ℕ) → among 1 200 height ≡ false → allowed height ≡ refused 20 0
unfolding allowed
not-allowed height e = if_false _ _ e

pub height_in : (height : ℕ) → among 1 200 height ≡ true → (1 ≤ height) × (height ≤ 200)
height_in height e =
    (leb-true 1 height (and_left (leb 1 height) (leb height 200) e), leb-true height 200 (and_right (leb 1 height) (leb height 200) e))

-- The page count

-- the rows of n pages are those before the last of them, and its own
pub times : (h n : ℕ) → 1 ≤ n → n * h ≡ h * (n - 1) + h
times h zero g = let z : ⊥ = omega arith in absurd z
times h (suc m) g = mul_comm (suc m) h ∙ mul-suc h m ∙ ap (λ (k : ℕ). h * k + h) (omega arith)

module _ (h n : ℕ) (s : List ℕ) (g : 1 ≤ h) (k : 1 ≤ n) where
  -- a page is one of the text's exactly where a row stands after those before it
  pub page-within : h * (n - 1) < length (rows s) → n ≤ pages_in h s
  unfolding pages_in
  page-within l = (le-div_iff_mul-le {k = h} {x = n} {y = length (rows s) + (h - 1)} g).1 (omega (arith, times h n k))

  pub page-beyond : length (rows s) ≤ h * (n - 1) → pages_in h s < n
  unfolding pages_in
  page-beyond l = (div-lt_iff_lt-mul {k = h} {x = length (rows s) + (h - 1)} {y = n} g).1 (omega (arith, times h n k))

  pub row_before : n ≤ pages_in h s → h * (n - 1) < length (rows s)
  unfolding pages_in
  row_before l = omega (arith, times h n k, (le-div_iff_mul-le {k = h} {x = n} {y = length (rows s) + (h - 1)} g).0 l)

  pub rows-past : pages_in h s < n → length (rows s) ≤ h * (n - 1)
  rows-past l =
      ⊎_elim (λ (m : length (rows s) ≤ h * (n - 1)). m)
      (λ (m : h * (n - 1) < length (rows s)). let z : ⊥ = omega (arith, page-within m) in absurd z)
      (le_or_lt (length (rows s)) (h * (n - 1)))

pub count_none : (h : ℕ) (s : List ℕ) → 1 ≤ h → length (rows s) ≡ 0 → pages_in h s ≡ 0
unfolding pages_in
count_none h s g e = div-eq_of_lt (omega arith)

-- rounded up
rounded_up : (h n : ℕ) → 1 ≤ h → (n + (h - 1)) / h ≡ n / h + min 1 (n % h)
rounded_up h n g =
    let m = mul_comm h (n / h) in
    ⊎_elim
    (λ (z : n % h ≤ 0).
    let e : n + (h - 1) ≡ n / h * h + (h - 1) = omega arith in
    let f : min 1 (n % h) ≡ 0 = omega arith in
    rw (e, f) (div-mul-add (n / h) h (h - 1) (omega arith) ∙ (omega arith)))
    (λ (z : 0 < n % h).
    let k : (n / h + 1) * h ≡ h * (n / h) + h = times h (n / h + 1) (omega arith) ∙ ap (λ (j : ℕ). h * j + h) (omega arith) in
    let e : n + (h - 1) ≡ (n / h + 1) * h + (n % h - 1) = omega arith in
    let f : min 1 (n % h) ≡ 1 = omega arith in
    rw (e, f) (div-mul-add (n / h + 1) h (n % h - 1) (omega arith)))
    (le_or_lt (n % h) 0)

-- what `page_count` answers
module _ (h : ℕ) (s : List ℕ) where
  pub count_refused : {m p : ℕ} → allowed h ≡ refused m p → refused m p ≡ page_count h s
  unfolding page_count ◌>>=◌
  count_refused e = rw e

  module _ (n : ℕ) (a : 1 ≤ h) (b : h ≤ 200) (e : n ≡ length (rows s)) where
    counted : {m : ℕ} → pages_in h s ≡ m → gives m ≡ page_count h s
    unfolding page_count ◌>>=◌
    counted f = rw (allowed_in h a b) (ap gives (sym f))

    pub count_rounded : gives (div_ceil n h) ≡ page_count h s
    unfolding pages_in
    count_rounded = counted (rounded_up h (length (rows s)) a ∙ ap (λ (k : ℕ). div_ceil k h) (sym e))

-- Which page it is

module _ (h n : ℕ) (s : List ℕ) where
  pub before-refused : {m p : ℕ} → allowed h ≡ refused m p → rows_before h n s ≡ refused m p
  unfolding rows_before ◌>>=◌
  before-refused e = rw e

  module _ (a : 1 ≤ h) (b : h ≤ 200) where
    pub before-none : n < 1 → rows_before h n s ≡ refused 21 0
    unfolding rows_before ◌>>=◌
    before-none g = rw (allowed_in h a b) (if_false _ _ (among_below 1 (pages_in h s) n g))

    pub before-beyond : 1 ≤ n → length (rows s) ≤ h * (n - 1) → rows_before h n s ≡ refused 21 0
    unfolding rows_before ◌>>=◌
    before-beyond g k = rw (allowed_in h a b) (if_false _ _ (among_over 1 (pages_in h s) n g (page-beyond h n s a g k)))

    pub before_in : 1 ≤ n → h * (n - 1) < length (rows s) → rows_before h n s ≡ gives (h * (n - 1))
    unfolding rows_before ◌>>=◌
    before_in g k = rw (allowed_in h a b) (if_true _ _ (among_in 1 (pages_in h s) n g (page-within h n s a g k)))

  -- start and size are refused alike
  pub page-refused : {m p : ℕ} → rows_before h n s ≡ refused m p → (refused m p ≡ page_start h n s) × (refused m p ≡ measured (page_of h n s))
  unfolding page_start page_of ◌>>=◌
  page-refused e = rw e (refl, refl)

  -- a page whose number is so large that the rows before it are more than the bytes
  pub far : 1 ≤ h → length s / h < n - 1 → length (rows s) ≤ h * (n - 1)
  far a l =
      let b = mul-le-mul_left {m = length s / h + 1} {n = n - 1} h (omega arith) in
      let d = times h (length s / h + 1) (omega arith) in
      omega (arith, lt-div-mul-add {a = length s} {b = h} a, rows_few s, mul_comm h (length s / h + 1), d, mul_comm h (length s / h))

  pub near : n - 1 ≤ length s / h → h * (n - 1) ≤ length s
  near l =
      let b = mul-le-mul_left {m = n - 1} {n = length s / h} h l in
      omega (arith, div-mul-le_self (length s) h, mul_comm h (length s / h))

  -- found by two passes: a after the rows before it, and b bytes of its own
  module _ (a b : ℕ) (e : a ≡ bytes_of (h * (n - 1)) s) where
    pub found_none : a ≡ length s → length (rows s) ≤ h * (n - 1)
    found_none f =
        ⊎_elim (λ (g : length (rows s) ≤ h * (n - 1)). g)
        (λ (g : h * (n - 1) < length (rows s)). let z : ⊥ = omega (arith, bytes_less s (h * (n - 1)) g) in absurd z)
        (le_or_lt (length (rows s)) (h * (n - 1)))

    found_some : (a ≡ length s → ⊥) → h * (n - 1) < length (rows s)
    found_some f =
        ⊎_elim (λ (g : length (rows s) ≤ h * (n - 1)). absurd (f (e ∙ bytes_all s (h * (n - 1)) g)))
        (λ (g : h * (n - 1) < length (rows s)). g)
        (le_or_lt (length (rows s)) (h * (n - 1)))

    size_is : b ≡ bytes_of h (drop a s) → b ≡ length (joined (take h (drop (h * (n - 1)) (rows s))))
    unfolding bytes_of
    size_is f =
        let i : rows (drop a s) ≡ drop (h * (n - 1)) (rows s) = ap (λ (k : ℕ). rows (drop k s)) e ∙ rows-after s (h * (n - 1)) in
        omega (arith, ap (λ (rs : List (List ℕ)). length (joined (take h rs))) i)

    pub page_found : 1 ≤ h → h ≤ 200 → 1 ≤ n → (a ≡ length s → ⊥) → b ≡ bytes_of h (drop a s)
        → (gives a ≡ page_start h n s) × (gives b ≡ measured (page_of h n s))
    unfolding page_start page_of ◌>>=◌ bytes_of
    page_found p q r f g = rw (before_in p q r (found_some f)) (ap gives e, ap gives (size_is g))

-- The part of the text

-- some rows after others
part-rows : (s : List ℕ) (k h : ℕ) → joined (take h (drop k (rows s))) ≡ take (length (joined (take h (drop k (rows s))))) (drop (bytes_of k s) s)
unfolding bytes_of
part-rows s k h =
    subst (λ (rs : List (List ℕ)). joined (take h rs) ≡ take (length (joined (take h rs))) (drop (bytes_of k s) s)) (rows-after s k)
    (joined_front (drop (bytes_of k s) s) h)

part-within : (s : List ℕ) (k h : ℕ) → bytes_of k s + length (joined (take h (drop k (rows s)))) ≤ length s
unfolding bytes_of
part-within s k h =
    let e = ap (λ (rs : List (List ℕ)). length (joined (take h rs))) (rows-after s k) in
    omega (arith, bytes-within s k, bytes-within (drop (bytes_of k s) s) h, length-drop (bytes_of k s) s)

-- a page is what stands at its start
pub page-part : (h n : ℕ) (s : List ℕ) (a m : ℕ) → gives a ≡ page_start h n s → gives m ≡ measured (page_of h n s)
    → (a + m ≤ length s) × (take m (drop a s) ≡ shown (page_of h n s))
unfolding page_start page_of bytes_of ◌>>=◌
page-part h n s a m e f = go (rows_before h n s) e f
  where
    start : ℕ → Result ℕ
    start k = gives (length (joined (take k (rows s))))

    part : ℕ → Result (List ℕ)
    part k = gives (joined (take h (drop k (rows s))))

    go : (r : Result ℕ) → gives a ≡ (r >>= start) → gives m ≡ measured (r >>= part) → (a + m ≤ length s) × (take m (drop a s) ≡ shown (r >>= part))
    go (refused i j) p q = absurd (refused-gives (sym p))
    go (gives k) p q =
        let x = gives_same p in
        let y = gives_same q in
        (omega (arith, x, y, part-within s k h), ap₂ (λ (u v : ℕ). take u (drop v s)) y x ∙ sym (part-rows s k h))

pub shown-none : (x : Result (List ℕ)) {i j : ℕ} → refused i j ≡ measured x → [] ≡ shown x
shown-none (gives y) e = absurd (refused-gives e)
shown-none (refused i j) e = refl

-- what is shown of an answer
module _ (h n : ℕ) (s : List ℕ) (r : Answer Part Refusal) (e : start_of r ≡ page_start h n s) (f : size_of r ≡ measured (page_of h n s)) where
  pub shown-part : (p : Part) → r ≡ Ok p → (p.start + p.size ≤ length s) × (take (p.start + p.size - p.start) (drop p.start s) ≡ shown (page_of h n s))
  shown-part p g =
      let a = p.start in
      let m = p.size in
      let w = page-part h n s a m (rw g at e) (rw g at f) in
      let z : a + m - a ≡ m = omega arith in
      (w.0, ap (λ (k : ℕ). take k (drop a s)) z ∙ w.1)

  pub shown-refused : (x : Refusal) → r ≡ Err x → [] ≡ shown (page_of h n s)
  shown-refused x g = shown-none (page_of h n s) (rw g at f)
