-- Text is well-formed exactly where each byte may stand after the three before it and the last three leave no character open: `utf8-sound`.
-- Then the same from a place on, as the code tests it by blocks.
-- Assumes nothing.
use Rattle.utf8.proofs.Names.{◌≡◌, refl, ap, sym, subst₂, ◌∙◌, ⊎_elim, Bool, true, false, not, ◌&&◌, ◌||◌, or-true, false≢true, List, [], ◌∷◌, ℕ, zero, suc}
use Rattle.utf8.proofs.Names.{◌+◌, ◌-◌, ◌<◌, ◌≤◌, add-zero, add-one, arith, leb}
use Rattle.utf8.proofs.Names.{length, get_or, take, drop, drop-cons, drop-length, le-leb, lt-leb}
use Rattle.utf8.proofs.Names.{lt-ltb, le-ltb, leb-true, leb-false, pick, le_or_lt, and_left, and_right}
use Rattle.utf8.proofs.Names.{if_true, if_false, not-passed, Range, ◌to◌, within, row_of, never, well_formed, utf8, continues, low, high, Ascii}
use Rattle.utf8.proofs.Names.{AsciiPart, sound_at, beside_at, Tested, and-false, drop-drop, get_or-drop, length-drop}
use Rattle.base.specs.Choice.{among}
use Rattle.utf8.specs.InnerNeighbours.{asks, under_way, follows, go_on, beside, sound}
use Rattle.utf8.proofs.Laws.{tail, begins-never, fits_begins, ascii_run, ascii_part, or_none, any_range}
use Rattle.utf8.proofs.Laws.{due_1, due_none, due_over, due_2, due_three, due_four}
use Rattle.utf8.specs.InnerParts.{is_ascii}

module _ (r q p : ℕ) where
  pub asks_none : p < 0xC0 → q < 0xE0 → r < 0xF0 → asks r q p ≡ false
  asks_none f g h = rw (lt-leb 0xC0 p f, lt-leb 0xE0 q g, lt-leb 0xF0 r h)

  pub asks_p : 0xC0 ≤ p → asks r q p ≡ true
  asks_p h = rw (le-leb 0xC0 p h)

  pub asks_q : 0xE0 ≤ q → asks r q p ≡ true
  asks_q h = simp (le-leb 0xE0 q h, or-true)

  pub asks_r : 0xF0 ≤ r → asks r q p ≡ true
  asks_r h = simp (le-leb 0xF0 r h, or-true)

pub asks-not : (r q p : ℕ) → asks r q p ≡ false → (p < 0xC0) × (q < 0xE0) × (r < 0xF0)
asks-not r q p e =
    let f = or_none (leb 0xC0 p || leb 0xE0 q) (leb 0xF0 r) e in
    let g = or_none (leb 0xC0 p) (leb 0xE0 q) f.0 in
    (leb-false 0xC0 p g.0, leb-false 0xE0 q g.1, leb-false 0xF0 r f.1)

low_least : (p : ℕ) → 0x80 ≤ low p
unfolding low
low_least p = pick (λ x. 0x80 ≤ x) _ (λ _. omega arith) (λ _. pick (λ x. 0x80 ≤ x) _ (λ _. omega arith) (λ _. omega arith))

high_most : (p : ℕ) → high p ≤ 0xBF
unfolding high
high_most p = pick (λ x. x ≤ 0xBF) _ (λ _. omega arith) (λ _. pick (λ x. x ≤ 0xBF) _ (λ _. omega arith) (λ _. omega arith))

-- a byte of a range that lies in 0x80 to 0xBF lies there
in_range : (lo hi b : ℕ) → 0x80 ≤ lo → hi ≤ 0xBF → within b (lo to hi) ≡ true → (0x80 ≤ b) × (b ≤ 0xBF)
in_range lo hi b g h e = (
  omega (arith, leb-true lo b (and_left (leb lo b) (leb b hi) e)),
  omega (arith, leb-true b hi (and_right (leb lo b) (leb b hi) e)),
)

-- what stands after the three, by whether one of the first two goes on after the last
under_way_none : (r q : ℕ) → q < 0xE0 → r < 0xF0 → under_way r q ≡ false
under_way_none r q g h = rw (lt-leb 0xE0 q g, lt-leb 0xF0 r h)

module _ (r q p b : ℕ) where
  pub beside_closed : under_way r q ≡ false → beside r q p b ≡ follows p b
  unfolding beside
  beside_closed e = if_false (go_on p b) (follows p b) e

  pub beside_open : under_way r q ≡ true → beside r q p b ≡ go_on p b
  unfolding beside
  beside_open e = if_true (go_on p b) (follows p b) e

  -- after the end of a character
  beside_start : p < 0xC0 → q < 0xE0 → r < 0xF0 → beside r q p b ≡ not (continues b)
  beside_start f g h = beside_closed (under_way_none r q g h) ∙ if_true (not (continues b)) _ (lt-ltb p 0xC0 f)

  -- after a first byte
  beside_first : 0xC2 ≤ p → p < 0xF5 → q < 0xE0 → r < 0xF0 → beside r q p b ≡ within b (low p to high p)
  beside_first f g h i =
      beside_closed (under_way_none r q h i) ∙ if_false (not (continues b)) _ (le-ltb p 0xC0 (omega arith))
      ∙ rw (le-leb 0xC2 p f, le-leb p 0xF4 (omega arith)) refl

  -- after a byte that goes on with a character that goes on
  beside_next : under_way r q ≡ true → 0x80 ≤ p → p ≤ 0xBF → beside r q p b ≡ within b (0x80 to 0xBF)
  beside_next e g h = beside_open e ∙ rw (le-leb 0x80 p g, le-leb p 0xBF h) refl

-- with nothing before the first of the three
pub third_open : (a b c : ℕ) → 0xE0 ≤ a → beside 0 a b c ≡ go_on b c
third_open a b c h = beside_open 0 a b c (rw (le-leb 0xE0 a h))

pub third_closed : (a b c : ℕ) → a < 0xE0 → beside 0 a b c ≡ follows b c
third_closed a b c h = beside_closed 0 a b c (under_way_none 0 a h (omega arith))

-- what `follows` says where it is not both
pub follows_start : (p b : ℕ) → p < 0xC0 → follows p b ≡ not (continues b)
follows_start p b h = if_true (not (continues b)) _ (lt-ltb p 0xC0 h)

pub follows_first : (p b : ℕ) → 0xC0 ≤ p → follows p b ≡ (among 0xC2 0xF4 p && among (low p) (high p) b)
follows_first p b h = if_false (not (continues b)) _ (le-ltb p 0xC0 h)

-- after the three, the ranges `due` are due
abbrev Due : ℕ → ℕ → ℕ → List Range → Type 0
Due r q p [] = (p < 0xC0) × (q < 0xE0) × (r < 0xF0)
Due r q p (x ∷ due) = (asks r q p ≡ true) × ((b : ℕ) → beside r q p b ≡ within b x) × ((b : ℕ) → within b x ≡ true → Due q p b due)

one_due : (r q p : ℕ) → asks r q p ≡ true → ((b : ℕ) → beside r q p b ≡ within b (0x80 to 0xBF)) → p < 0xE0 → q < 0xF0 → Due r q p tail
one_due r q p e n g h = (e, n, λ b w. let i = in_range 0x80 0xBF b (omega arith) (omega arith) w in (omega (arith, i), g, h))

under_p : (q p : ℕ) → 0xE0 ≤ p → under_way q p ≡ true
under_p q p h = rw (le-leb 0xE0 p h)

under_q : (q p : ℕ) → 0xF0 ≤ q → under_way q p ≡ true
under_q q p h = simp (le-leb 0xF0 q h, or-true)

-- with two bytes due, the first of the range x
two_due : (r q p : ℕ) (x : Range) → asks r q p ≡ true → ((b : ℕ) → beside r q p b ≡ within b x)
    → ((b : ℕ) → within b x ≡ true → (0x80 ≤ b) × (b ≤ 0xBF)) → ((b : ℕ) → asks q p b ≡ true) → under_way q p ≡ true → p < 0xF0 → Due r q p (x ∷ tail)
two_due r q p x e n i f u h = (
  e,
  n,
  λ b w. let l = i b w in one_due q p b (f b) (λ c. beside_next q p b c u l.0 l.1) (omega (arith, l)) h,
)

-- with three, after the first byte of a character of four
three_due : (r q p : ℕ) (x : Range) → 0xF0 ≤ p → ((b : ℕ) → beside r q p b ≡ within b x)
    → ((b : ℕ) → within b x ≡ true → (0x80 ≤ b) × (b ≤ 0xBF)) → Due r q p (x ∷ 0x80 to 0xBF ∷ tail)
three_due r q p x h n i = (
  asks_p r q p (omega arith),
  n,
  λ b w.
      let l = i b w in
      two_due q p b (0x80 to 0xBF) (asks_q q p b (omega arith)) (λ c. beside_next q p b c (under_p q p (omega arith)) l.0 l.1)
      (λ c v. in_range 0x80 0xBF c (omega arith) (omega arith) v) (λ c. asks_r p b c h) (under_q p b h) (omega (arith, l)),
)

never_fits : (s : List ℕ) → well_formed never.after s ≡ false
never_fits s = fits_begins never.after s ∙ rw (← begins-never s)

goes_on : (b : ℕ) → 0x80 ≤ b → b < 0xC0 → continues b ≡ true
goes_on b g h = rw (le-leb 0x80 b g, le-leb b 0xBF (omega arith))

goes_low : (b : ℕ) → b < 0x80 → continues b ≡ false
goes_low b h = rw (lt-leb 0x80 b h)

goes_high : (b : ℕ) → 0xC0 ≤ b → continues b ≡ false
goes_high b h = simp (lt-leb b 0xBF (omega arith), and-false)

-- a byte that is no first byte of a character, and does not go on with one, stands in no text
no_first : (q p b : ℕ) (s : List ℕ) → p < 0xE0 → q < 0xF0 → 0xC0 ≤ b → among 0xC2 0xF4 b ≡ false → sound q p b s ≡ false
no_first q p b [] g h l n = ap not (asks_p q p b l)
no_first q p b (c ∷ s) g h l n =
    let e : beside q p b c ≡ false = beside_closed q p b c (under_way_none q p g h) ∙ if_false _ _ (le-ltb b 0xC0 l) ∙ rw n refl in
    rw e refl

-- the first byte of a character, and what is due after it
module _ (r q p b : ℕ) (s : List ℕ) (n : Due r q p []) (rest : (due : List Range) → Due q p b due → well_formed due s ≡ sound q p b s) where
  start : beside r q p b ≡ not (continues b)
  start = beside_start r q p b n.0 n.1 n.2

  begins_with : (due : List Range) → (row_of b).after ≡ due → continues b ≡ false → Due q p b due
      → well_formed (row_of b).after s ≡ (beside r q p b && sound q p b s)
  begins_with due e f d = rw (e, start, f) (rest due d)

  begins-not : (row_of b).after ≡ never.after → continues b ≡ true → well_formed (row_of b).after s ≡ (beside r q p b && sound q p b s)
  begins-not e f = rw (e, start, f) (never_fits s)

  begins-none : (row_of b).after ≡ never.after → 0xC0 ≤ b → among 0xC2 0xF4 b ≡ false → well_formed (row_of b).after s ≡ (beside r q p b && sound q p b s)
  begins-none e g f = rw (e, start, goes_high b g) (never_fits s ∙ sym (no_first q p b s (omega (arith, n)) (omega (arith, n)) g f))

  led : 0xC2 ≤ b → b < 0xF5 → (c : ℕ) → beside q p b c ≡ within c (low b to high b)
  led g h c = beside_first q p b c g h (omega (arith, n)) (omega (arith, n))

  ranged : (c : ℕ) → within c (low b to high b) ≡ true → (0x80 ≤ c) × (c ≤ 0xBF)
  ranged c w = in_range (low b) (high b) c (low_least b) (high_most b) w

  starts-two : 0xC2 ≤ b → b < 0xE0 → well_formed (row_of b).after s ≡ (beside r q p b && sound q p b s)
  starts-two g h =
      let range = any_range b (λ z. omega arith) (λ z. omega arith) (λ z. omega arith) (λ z. omega arith) in
      begins_with tail (due_2 b g h) (goes_high b (omega arith))
      (one_due q p b (asks_p q p b (omega arith)) (λ c. led g (omega arith) c ∙ ap (within c) (sym range)) h (omega (arith, n)))

  starts-three : 0xE0 ≤ b → b < 0xF0 → well_formed (row_of b).after s ≡ (beside r q p b && sound q p b s)
  starts-three g h =
      begins_with (low b to high b ∷ tail) (due_three b g h) (goes_high b (omega arith))
      (two_due q p b (low b to high b) (asks_p q p b (omega arith)) (led (omega arith) (omega arith)) ranged (λ c. asks_q p b c g) (under_p p b g) h)

  starts-four : 0xF0 ≤ b → b < 0xF5 → well_formed (row_of b).after s ≡ (beside r q p b && sound q p b s)
  starts-four g h =
      begins_with (low b to high b ∷ 0x80 to 0xBF ∷ tail) (due_four b g h) (goes_high b (omega arith))
      (three_due q p b (low b to high b) g (led (omega arith) h) ranged)

  -- by the lines of table 3-7
  first_byte : well_formed (row_of b).after s ≡ (beside r q p b && sound q p b s)
  first_byte =
      below 0x80 (λ h. begins_with [] (due_1 b h) (goes_low b h) (omega (arith, n)))
      (λ i. below 0xC0 (λ h. begins-not (due_none b i (omega arith)) (goes_on b i h))
      (λ k. below 0xC2 (λ h. begins-none (due_none b i h) k (rw (lt-leb 0xC2 b h) refl))
      (λ j. below 0xE0 (starts-two j)
      (λ l. below 0xF0 (starts-three l)
      (λ m. below 0xF5 (starts-four m) (λ o. begins-none (due_over b o) k (simp (lt-leb b 0xF4 (omega arith), and-false))))))))
    where
      below : (m : ℕ) {A : Type 0} → (b < m → A) → (m ≤ b → A) → A
      below m f g = ⊎_elim g f (le_or_lt m b)

-- a byte that is due
next_byte : (r q p b : ℕ) (x : Range) (due : List Range) (s : List ℕ) → Due r q p (x ∷ due) → (Due q p b due → well_formed due s ≡ sound q p b s)
    → (within b x && well_formed due s) ≡ (beside r q p b && sound q p b s)
next_byte r q p b x due s d rest = rw (d.1 b) (go (within b x) refl)
  where
    go : (y : Bool) → within b x ≡ y → (y && well_formed due s) ≡ (y && sound q p b s)
    go true e = rest (d.2 b e)
    go false e = refl

-- a text with ranges due, by the three bytes before it
fits_sound : (due : List Range) (r q p : ℕ) (s : List ℕ) → Due r q p due → well_formed due s ≡ sound r q p s
fits_sound [] r q p [] d = sym (ap not (asks_none r q p d.0 d.1 d.2))
fits_sound (x ∷ due) r q p [] d = sym (ap not d.0)
fits_sound [] r q p (b ∷ s) d = first_byte r q p b s d (λ due e. fits_sound due q p b s e)
fits_sound (x ∷ due) r q p (b ∷ s) d = next_byte r q p b x due s d (λ e. fits_sound due q p b s e)

pub utf8-sound : (s : List ℕ) → utf8 s ≡ sound 0 0 0 s
utf8-sound s = fits_sound [] 0 0 0 s (omega arith)

-- from a place on
module _ (s : List ℕ) where
  abbrev pub open_at : ℕ → Bool
  open_at i = asks (get_or s (i - 3) 0) (get_or s (i - 2) 0) (get_or s (i - 1) 0)

  pub sound-step : (i : ℕ) → 3 ≤ i → i < length s → sound_at s i ≡ (beside_at s i && sound_at s (i + 1))
  sound-step i g h =
      let p : i + 1 - 3 ≡ i - 2 = omega arith in
      let q : i + 1 - 2 ≡ i - 1 = omega arith in
      let r : i + 1 - 1 ≡ i = omega arith in
      rw (p, q, r, add-one, drop-cons s i 0)

  pub sound-end : (i : ℕ) → i ≡ length s → sound_at s i ≡ not (open_at i)
  sound-end i e = ap (sound (get_or s (i - 3) 0) (get_or s (i - 2) 0) (get_or s (i - 1) 0)) (ap (λ (k : ℕ). drop k s) e ∙ drop-length s)

  -- what holds from a place on holds from a later one on
  later : (i n : ℕ) → 3 ≤ i → i + n ≤ length s → sound_at s i ≡ true → sound_at s (i + n) ≡ true
  later i zero g h e = rw add-zero e
  later i (suc n) g h e =
      let q : i + n + 1 ≡ i + suc n = omega arith in
      let f = sym (sound-step (i + n) (omega arith) (omega arith)) ∙ later i n g (omega arith) e in
      ap (sound_at s) (sym q) ∙ and_right (beside_at s (i + n)) (sound_at s (i + n + 1)) f

  pub sound-later : (i j : ℕ) → 3 ≤ i → i ≤ j → j ≤ length s → sound_at s i ≡ true → sound_at s j ≡ true
  sound-later i j g h l e = let q : i + (j - i) ≡ j = omega arith in rw q at (later i (j - i) g (omega arith) e)

  -- where no character is open, the rest is a text by itself
  pub sound-closed : (i : ℕ) → get_or s (i - 3) 0 < 0xF0 → get_or s (i - 2) 0 < 0xE0 → get_or s (i - 1) 0 < 0xC0 → utf8 (drop i s) ≡ sound_at s i
  sound-closed i f g h = fits_sound [] _ _ _ (drop i s) (h, g, f)

-- the first three bytes, before which none asks
module _ (s : List ℕ) where
  abbrev pub first : Bool
  first = beside 0 0 0 (get_or s 0 0)

  abbrev pub second : Bool
  second = beside 0 0 (get_or s 0 0) (get_or s 1 0)

  abbrev pub third : Bool
  third = beside 0 (get_or s 0 0) (get_or s 1 0) (get_or s 2 0)

first_three : (s : List ℕ) → 3 ≤ length s → utf8 s ≡ (first s && (second s && (third s && sound_at s 3)))
first_three [] h = absurd (let z : ⊥ = omega arith in z)
first_three (a ∷ []) h = absurd (let z : ⊥ = omega arith in z)
first_three (a ∷ b ∷ []) h = absurd (let z : ⊥ = omega arith in z)
first_three (a ∷ b ∷ c ∷ s) h = utf8-sound (a ∷ b ∷ c ∷ s)

-- the bytes from a on, tested one by one
module _ (s : List ℕ) (a : ℕ) (g : 3 ≤ a) where
  all_beside : (n : ℕ) → a + n ≤ length s → ((k : ℕ) → a ≤ k → k < a + n → beside_at s k ≡ true) → sound_at s a ≡ sound_at s (a + n)
  all_beside zero h f = rw add-zero
  all_beside (suc n) h f =
      let q : a + n + 1 ≡ a + suc n = omega arith in
      all_beside n (omega arith) (λ k i j. f k i (omega arith))
      ∙ sound-step s (a + n) (omega arith) (omega arith) ∙ rw (f (a + n) (omega arith) (omega arith)) (ap (sound_at s) q)

  some_beside : (n : ℕ) → a + n < length s → beside_at s (a + n) ≡ false → sound_at s a ≡ false
  some_beside n h e =
      not-passed (sound_at s a) (λ t.
      false≢true (sym (sound-step s (a + n) (omega arith) h ∙ rw e) ∙ sound-later s a (a + n) g (omega arith) (omega arith) t))

  -- by the tests up to a + n
  module _ (n : ℕ) (h : a + n ≤ length s) {r : Bool} (t : Tested s a (a + n) r) where
    -- all of them stand there
    pub passed : r ≡ false → sound_at s a ≡ sound_at s (a + n)
    passed f = all_beside n h (t.all f)

    -- one does not
    pub failed : r ≡ true → sound_at s a ≡ false
    failed f =
        let k = t.some f in
        let q : a + (k.0 - a) ≡ k.0 = omega (arith, k.1) in
        some_beside (k.0 - a) (omega (arith, k.1, k.2)) (rw q k.3)

-- by the tests of the last bytes
module _ (s : List ℕ) (j : ℕ) (g : 3 ≤ j) (h : j ≤ length s) {r : Bool} (t : Tested s (length s - (length s - j)) (length s) r) where
  to_end : Tested s j (j + (length s - j)) r
  to_end =
      let a : length s - (length s - j) ≡ j = omega arith in
      let b : length s ≡ j + (length s - j) = omega arith in
      subst₂ (λ (x y : ℕ). Tested s x y r) a b t

  pub passed_end : r ≡ false → sound_at s j ≡ sound_at s (length s)
  passed_end e =
      let b : j + (length s - j) ≡ length s = omega arith in
      passed s j g (length s - j) (omega arith) to_end e ∙ ap (sound_at s) b

  pub failed_end : r ≡ true → sound_at s j ≡ false
  failed_end e = failed s j g (length s - j) (omega arith) to_end e

-- ASCII
module _ (s : List ℕ) where
  pub ascii_more : (i w m : ℕ) → Ascii s i → i + w ≤ length s → m ≡ w → is_ascii (take m (drop i s)) ≡ true → Ascii s (i + w)
  ascii_more i w m a h e t = record {
    room = h;
    each = λ k g. ⊎_elim (λ (o : i ≤ k). let q : i + (k - i) ≡ k = omega arith in rw q at (ascii_part s i w m h e t (k - i) (omega arith)))
        (λ (o : k < i). a.each k o) (le_or_lt i k);
  }

  pub ascii_rest : (i : ℕ) → Ascii s i → utf8 s ≡ utf8 (drop i s)
  ascii_rest i a =
      let q : 0 + i ≡ i = omega arith in
      rw q at (ascii_run s 0 i (omega (arith, a.room)) (λ k g. let z : 0 + k ≡ k = omega arith in rw z (a.each k g)))

  pub ascii_all : (i : ℕ) → Ascii s i → i ≡ length s → true ≡ utf8 s
  ascii_all i a e = sym (ascii_rest i a ∙ ap (λ (k : ℕ). utf8 (drop k s)) e ∙ ap utf8 (drop-length s))

  pub ascii_sound : (i : ℕ) → Ascii s i → 3 ≤ i → utf8 s ≡ sound_at s i
  ascii_sound i a h =
      let f = a.each (i - 3) (omega arith) in
      let g = a.each (i - 2) (omega arith) in
      let l = a.each (i - 1) (omega arith) in
      ascii_rest i a ∙ sound-closed s i (omega arith) (omega arith) (omega arith)

  -- 32 bytes of it, where no character is open
  pub plain-sound : (a : ℕ) {x : Bool} → 3 ≤ a → a + 32 ≤ length s → x ≡ open_at s a → x ≡ false → ((k : ℕ) → k < 32 → get_or s (a + k) 0 < 0x80)
      → sound_at s a ≡ sound_at s (a + 32)
  plain-sound a h l e f each =
      let o = asks-not (get_or s (a - 3) 0) (get_or s (a - 2) 0) (get_or s (a - 1) 0) (sym e ∙ f) in
      sym (sound-closed s a o.2 o.1 o.0)
      ∙ ascii_run s a 32 l each
      ∙ sound-closed s (a + 32) (omega (arith, near each 3 (omega arith) (omega arith))) (omega (arith, near each 2 (omega arith) (omega arith)))
      (omega (arith, near each 1 (omega arith) (omega arith)))
    where
      near : ((k : ℕ) → k < 32 → get_or s (a + k) 0 < 0x80) → (k : ℕ) → 1 ≤ k → k ≤ 3 → get_or s (a + 32 - k) 0 < 0x80
      near each k g v = let q : a + (32 - k) ≡ a + 32 - k = omega arith in rw q at (each (32 - k) (omega arith))

-- after ASCII no character is open where none was before it
module _ (s : List ℕ) (i : ℕ) (g : 3 ≤ i) where
  still_closed : (n : ℕ) → Ascii (drop i s) n → open_at s i ≡ false → open_at s (i + n) ≡ false
  still_closed zero a e = rw add-zero e
  still_closed (suc n) a e =
      let o = asks-not (get_or s (i + n - 3) 0) (get_or s (i + n - 2) 0) (get_or s (i + n - 1) 0)
      (still_closed n record { room = omega (arith, a.room); each = λ k h. a.each k (omega arith) } e) in
      let b : get_or s (i + n) 0 < 0x80 = rw (get_or-drop i s n 0) at (a.each n (omega arith)) in
      let x : i + suc n - 3 ≡ i + n - 2 = omega arith in
      let y : i + suc n - 2 ≡ i + n - 1 = omega arith in
      let z : i + suc n - 1 ≡ i + n = omega arith in
      rw (x, y, z) (asks_none (get_or s (i + n - 2) 0) (get_or s (i + n - 1) 0) (get_or s (i + n) 0) (omega arith) (omega (arith, o)) (omega (arith, o)))

  -- the rest of a text from i on, of which n bytes are ASCII
  pub rest_sound : (n : ℕ) → Ascii (drop i s) n → open_at s i ≡ false → utf8 (drop i s) ≡ sound_at s (i + n)
  rest_sound n a e =
      let o = asks-not (get_or s (i + n - 3) 0) (get_or s (i + n - 2) 0) (get_or s (i + n - 1) 0) (still_closed n a e) in
      ascii_rest (drop i s) n a ∙ ap utf8 (drop-drop n i s) ∙ sound-closed s (i + n) o.2 o.1 o.0

not-not : (x : Bool) → not (not x) ≡ x
not-not true = refl
not-not false = refl

-- .. as the code finds it, up to j
pub rest_sound_at : (s : List ℕ) (i j : ℕ) → 3 ≤ i → i ≤ j → j ≤ length s → AsciiPart s i j → open_at s i ≡ false → sound_at s j ≡ utf8 (drop i s)
rest_sound_at s i j h l m p e =
    let q : i + (j - i) ≡ j = omega arith in
    let a : Ascii (drop i s) (j - i) = record {
      room = omega (arith, length-drop i s);
      each = λ k g. rw (get_or-drop i s k 0) (p.each (i + k) (omega arith) (omega arith));
    } in
    sym (rest_sound s i h (j - i) a e ∙ ap (sound_at s) q)

-- where to start: after the first three bytes
module _ (s : List ℕ) (h : 3 ≤ length s) where
  pub begun_first : first s ≡ false → utf8 s ≡ false
  begun_first e = first_three s h ∙ rw e

  pub begun_second : second s ≡ false → utf8 s ≡ false
  begun_second e = first_three s h ∙ simp (e, and-false)

  pub begun_third : first s ≡ true → second s ≡ true → {x : Bool} → x ≡ not (third s) → utf8 s ≡ (not x && sound_at s 3)
  begun_third d e f = first_three s h ∙ rw (d, e, f) (ap (λ (x : Bool). x && sound_at s 3) (sym (not-not (third s))))
