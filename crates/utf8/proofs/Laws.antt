-- Laws of the definitions of `specs/Utf8.antt`.
-- Assumes nothing.
use Rattle.utf8.proofs.Names.{◌≡◌, refl, ap, sym, ◌∙◌, Bool, true, false, not, ◌||◌, ◌&&◌, and-false, and_assoc, false≢true, ⊎_elim, List, [], ◌∷◌, ℕ}
use Rattle.utf8.proofs.Names.{zero, suc, ◌+◌, ◌-◌, ◌/◌, ◌<◌, ◌≤◌, suc-le-suc, add-one, not-suc-le-zero, add-zero, arith, leb, leb-zero, leb-false}
use Rattle.utf8.proofs.Names.{length, get_or, take, drop, length-drop}
use Rattle.utf8.proofs.Names.{le-leb, lt-leb, ne_eqb, drop-cons, when◌then◌else◌, le_or_lt, eq_or_not, and_right, Range, ◌to◌}
use Rattle.utf8.proofs.Names.{within, continues, table, row_of, well_formed, characters, never, begins, size_of, low, high}
use Rattle.std.specs.Prelude.{cond}
use Rattle.std.specs.List.{count_by}
use Rattle.std.proofs.lemmas.List.Recursion.{is_count_by}
use Rattle.base.proofs.Counting.{none_passes_part}
use Rattle.utf8.specs.InnerParts.{is_ascii}
use Rattle.std.specs.Prelude.{MatchBool}
use Rattle.std.specs.Str.{IsAscii, IsNotAscii}
use Rattle.std.proofs.lemmas.List.Folds.{list_any_none, list_any_at}
use Rattle.std.proofs.lemmas.List.Elements.{All-from_get_or}
use Rattle.std.proofs.lemmas.List.{take_all, get_or_past}
use lib.Dec.{eqb}

-- what a byte adds to the count
abbrev pub adds : ℕ → ℕ
adds b = when continues b then 0 else 1

pub adds-low : (b : ℕ) → b < 0x80 → adds b ≡ 1
unfolding when◌then◌else◌
adds-low b h = rw (lt-leb 0x80 b h)

pub adds-high : (b : ℕ) → 0xBF < b → adds b ≡ 1
unfolding when◌then◌else◌
adds-high b h = let g : 0x80 ≤ b = omega arith in rw (le-leb 0x80 b g, lt-leb b 0xBF h)

pub adds_none : (b : ℕ) → 0x80 ≤ b → b ≤ 0xBF → adds b ≡ 0
unfolding when◌then◌else◌
adds_none b g h = rw (le-leb 0x80 b g, le-leb b 0xBF h)

-- what is due, and then whole characters
pub fits_begins : (rs : List Range) (t : List ℕ) → well_formed rs t ≡ (begins rs t && well_formed [] (drop (length rs) t))
fits_begins [] t = refl
fits_begins (r ∷ rs) [] = refl
fits_begins (r ∷ rs) (b ∷ t) = ap (λ (x : Bool). within b r && x) (fits_begins rs t) ∙ sym (and_assoc (within b r) (begins rs t) _)

begins_room : (rs : List Range) (t : List ℕ) → begins rs t ≡ true → length rs ≤ length t
begins_room [] t e = omega arith
begins_room (r ∷ rs) [] e = absurd (false≢true e)
begins_room (r ∷ rs) (b ∷ t) e = suc-le-suc (begins_room rs t (and_right (within b r) (begins rs t) e))

pub begins-never : (t : List ℕ) → false ≡ begins never.after t
begins-never [] = refl
begins-never (b ∷ t) = ⊎_elim (λ (l : b ≤ 0x80). rw (lt-leb 0xFF b (omega arith))) (λ (l : 0x80 < b). simp (lt-leb b 0x80 l, and-false)) (le_or_lt b 0x80)

pub ranged : {l : List Range} {r : ℕ × ℕ} {p q : ℕ} {rest : List Range} → l ≡ p to q ∷ rest → r ≡ (p, q) → l ≡ r.0 to r.1 ∷ rest
ranged e f = rw (f, e)

-- a text goes on after its first character, or is none
pub record Next (t : List ℕ) (k : ℕ) : Type 0 where
  pub room : k ≤ length t
  pub rest : well_formed [] t ≡ well_formed [] (drop k t)

pub size-stop : (t : List ℕ) → 0 < length t → size_of t ≡ 0 → well_formed [] t ≡ false
unfolding when◌then◌else◌ size_of
size-stop [] h e = absurd (not-suc-le-zero h)
size-stop (b ∷ t) h e = fits_begins (row_of b).after t ∙ go (begins (row_of b).after t) e
  where
    go : (x : Bool) → when x then suc (length (row_of b).after) else 0 ≡ 0 → (x && well_formed [] (drop (length (row_of b).after) t)) ≡ false
    go true q = let z : ⊥ = omega arith in absurd z
    go false q = refl

pub size-next : (t : List ℕ) → (size_of t ≡ 0 → ⊥) → Next t (size_of t)
unfolding when◌then◌else◌ size_of
size-next [] n = absurd (n refl)
size-next (b ∷ t) n = go (begins (row_of b).after t) refl n
  where
    go : (x : Bool) → begins (row_of b).after t ≡ x → (when x then suc (length (row_of b).after) else 0 ≡ 0 → ⊥)
        → Next (b ∷ t) (when x then suc (length (row_of b).after) else 0)
    go true q n = record {
      room = suc-le-suc (begins_room (row_of b).after t q);
      rest = fits_begins (row_of b).after t ∙ rw q;
    }
    go false q n = absurd (n refl)

pub next_of : (t : List ℕ) {k : ℕ} → k ≡ size_of t → 1 ≤ k → Next t k
next_of t e h = let n = size-next t (λ z. let q : ⊥ = omega (arith, e, z) in q) in rw (← e) at n

-- the lines of the table, by the first byte
abbrev pub tail : List Range
tail = 0x80 to 0xBF ∷ []

module _ (a : ℕ) where
  past : (k : ℕ) → k < a → (leb a k ≡ false)
  past k h = lt-leb a k h

  pub due_1 : a < 0x80 → (row_of a).after ≡ []
  unfolding when◌then◌else◌ row_of table
  due_1 h = let p : a ≤ 0x7F = omega arith in simp (leb-zero, le-leb a 0x7F p)

  pub due_none : 0x80 ≤ a → a < 0xC2 → (row_of a).after ≡ never.after
  unfolding when◌then◌else◌ row_of table
  due_none g h =
      let q : (k : ℕ) → 0xC2 ≤ k → leb k a ≡ false = λ k l. lt-leb k a (omega arith) in
      simp (
        and-false,
        past 0x7F (omega arith),
        q 0xC2 (omega arith),
        q 0xE0 (omega arith),
        q 0xE1 (omega arith),
        q 0xED (omega arith),
        q 0xEE (omega arith),
        q 0xF0 (omega arith),
        q 0xF1 (omega arith),
        q 0xF4 (omega arith),
      )

  pub due_over : 0xF5 ≤ a → (row_of a).after ≡ never.after
  unfolding when◌then◌else◌ row_of table
  due_over h =
      simp (
        and-false,
        past 0x7F (omega arith),
        past 0xDF (omega arith),
        past 0xE0 (omega arith),
        past 0xEC (omega arith),
        past 0xED (omega arith),
        past 0xEF (omega arith),
        past 0xF0 (omega arith),
        past 0xF3 (omega arith),
        past 0xF4 (omega arith),
      )

  pub due_2 : 0xC2 ≤ a → a < 0xE0 → (row_of a).after ≡ tail
  unfolding when◌then◌else◌ row_of table
  due_2 g h = simp (and-false, past 0x7F (omega arith), le-leb 0xC2 a g, le-leb a 0xDF (omega arith))

  pub due_E0 : a ≡ 0xE0 → (row_of a).after ≡ 0xA0 to 0xBF ∷ tail
  unfolding when◌then◌else◌ row_of table
  due_E0 e = rw e

  pub due_ED : a ≡ 0xED → (row_of a).after ≡ 0x80 to 0x9F ∷ tail
  unfolding when◌then◌else◌ row_of table
  due_ED e = rw e

  pub due_3 : 0xE0 ≤ a → a < 0xF0 → (a ≡ 0xE0 → ⊥) → (a ≡ 0xED → ⊥) → (row_of a).after ≡ 0x80 to 0xBF ∷ tail
  unfolding when◌then◌else◌ row_of table
  due_3 g h n m =
      ⊎_elim
      (λ (l : a ≤ 0xEC).
      simp (and-false, past 0x7F (omega arith), past 0xDF (omega arith), past 0xE0 (omega arith), le-leb 0xE1 a (omega arith), le-leb a 0xEC l))
      (λ (l : 0xEC < a).
      simp (
        and-false,
        past 0x7F (omega arith),
        past 0xDF (omega arith),
        past 0xE0 (omega arith),
        past 0xEC l,
        past 0xED (omega arith),
        le-leb 0xEE a (omega arith),
        le-leb a 0xEF (omega arith),
      ))
      (le_or_lt a 0xEC)

  pub due_F0 : a ≡ 0xF0 → (row_of a).after ≡ 0x90 to 0xBF ∷ 0x80 to 0xBF ∷ tail
  unfolding when◌then◌else◌ row_of table
  due_F0 e = rw e

  pub due_F4 : a ≡ 0xF4 → (row_of a).after ≡ 0x80 to 0x8F ∷ 0x80 to 0xBF ∷ tail
  unfolding when◌then◌else◌ row_of table
  due_F4 e = rw e

  pub due_4 : 0xF0 ≤ a → a < 0xF5 → (a ≡ 0xF0 → ⊥) → (a ≡ 0xF4 → ⊥) → (row_of a).after ≡ 0x80 to 0xBF ∷ 0x80 to 0xBF ∷ tail
  unfolding when◌then◌else◌ row_of table
  due_4 g h n m =
      simp (
        and-false,
        past 0x7F (omega arith),
        past 0xDF (omega arith),
        past 0xE0 (omega arith),
        past 0xEC (omega arith),
        past 0xED (omega arith),
        past 0xEF (omega arith),
        past 0xF0 (omega arith),
        le-leb 0xF1 a (omega arith),
        le-leb a 0xF3 (omega arith),
      )

-- by the range of its second byte
pub any_range : (a : ℕ) → (a ≡ 0xE0 → ⊥) → (a ≡ 0xED → ⊥) → (a ≡ 0xF0 → ⊥) → (a ≡ 0xF4 → ⊥) → 0x80 to 0xBF ≡ low a to high a
unfolding when◌then◌else◌ low high
any_range a k l m n = rw (ne_eqb a 0xE0 k, ne_eqb a 0xED l, ne_eqb a 0xF0 m, ne_eqb a 0xF4 n)

pub due_two : (a : ℕ) → 0xC2 ≤ a → a < 0xE0 → (row_of a).after ≡ low a to high a ∷ []
due_two a g h =
    due_2 a g h ∙ ap (λ (r : Range). r ∷ []) (any_range a (λ z. omega arith) (λ z. omega arith) (λ z. omega arith) (λ z. omega arith))

pub due_three : (a : ℕ) → 0xE0 ≤ a → a < 0xF0 → (row_of a).after ≡ low a to high a ∷ tail
unfolding when◌then◌else◌ low high
due_three a g h =
    ⊎_elim (λ (e : a ≡ 0xE0). due_E0 a e ∙ rw e)
    (λ (m : a ≡ 0xE0 → ⊥). ⊎_elim (λ (e : a ≡ 0xED). due_ED a e ∙ rw e)
    (λ (n : a ≡ 0xED → ⊥). due_3 a g h m n ∙ ap (λ (r : Range). r ∷ tail) (any_range a m n (λ z. omega arith) (λ z. omega arith))) (eq_or_not a 0xED))
    (eq_or_not a 0xE0)

pub due_four : (a : ℕ) → 0xF0 ≤ a → a < 0xF5 → (row_of a).after ≡ low a to high a ∷ 0x80 to 0xBF ∷ tail
unfolding when◌then◌else◌ low high
due_four a g h =
    ⊎_elim (λ (e : a ≡ 0xF0). due_F0 a e ∙ rw e)
    (λ (m : a ≡ 0xF0 → ⊥). ⊎_elim (λ (e : a ≡ 0xF4). due_F4 a e ∙ rw e)
    (λ (n : a ≡ 0xF4 → ⊥).
    due_4 a g h m n ∙ ap (λ (r : Range). r ∷ 0x80 to 0xBF ∷ tail) (any_range a (λ z. omega arith) (λ z. omega arith) m n)) (eq_or_not a 0xF4))
    (eq_or_not a 0xF0)

-- a first byte, and the bytes after it
module _ (a : ℕ) (t : List ℕ) where
  pub size-by : (due : List Range) {x : Bool} → (row_of a).after ≡ due → x ≡ begins due t → when x then suc (length due) else 0 ≡ size_of (a ∷ t)
  unfolding size_of
  size-by due e p = rw (e, ← p)

  pub size-never : (row_of a).after ≡ never.after → 0 ≡ size_of (a ∷ t)
  unfolding when◌then◌else◌ size_of
  size-never e = rw (e, ← begins-never t)

  pub size-one : a < 0x80 → 1 ≡ size_of (a ∷ t)
  unfolding when◌then◌else◌ size_of
  size-one h = rw (due_1 a h)

pub head_at : (s : List ℕ) (at : ℕ) → at < length s → get_or s at 0 ∷ drop (at + 1) s ≡ drop at s
head_at s at h = rw (add-one, drop-cons s at 0)

pub one_at : (s : List ℕ) (i : ℕ) → i < length s → get_or s i 0 < 0x80 → well_formed [] (drop i s) ≡ well_formed [] (drop (i + 1) s)
one_at s i h l =
    ap (well_formed []) (sym (head_at s i h)) ∙ ap (λ (due : List Range). well_formed due (drop (i + 1) s)) (due_1 (get_or s i 0) l)

-- a part up to the end
pub rest_is : (k : ℕ) (t : List ℕ) → take (length t - k) (drop k t) ≡ drop k t
rest_is k t = take_all (length t - k) (drop k t) (omega (arith, length-drop k t))

-- the first byte of a text and the others
pub first_is : (t : List ℕ) → 1 ≤ length t → get_or t 0 0 ∷ take (length t - 1) (drop 1 t) ≡ t
first_is [] h = absurd (not-suc-le-zero h)
first_is (b ∷ t) h = ap (λ (l : List ℕ). b ∷ l) (rest_is 1 (b ∷ t))

pub size-empty : (t : List ℕ) → length t < 1 → size_of t ≡ 0
unfolding size_of
size-empty [] h = refl
size-empty (b ∷ t) h = let z : ⊥ = omega arith in absurd z

-- a text is no more than its characters where none stands at its head
pub ends_there : (t : List ℕ) → size_of t ≡ 0 → eqb (length t) 0 ≡ well_formed [] t
ends_there [] e = refl
ends_there (b ∷ t) e = ne_eqb (length (b ∷ t)) 0 (λ z. omega (arith, z)) ∙ sym (size-stop (b ∷ t) (omega arith) e)

-- ASCII by one test of all
pub or_none : (x y : Bool) → x || y ≡ false → (x ≡ false) × (y ≡ false)
or_none true y e = absurd (false≢true (sym e))
or_none false y e = (refl, e)

pub not_none : (x : Bool) → not x ≡ true → x ≡ false
not_none true e = absurd (false≢true e)
not_none false e = refl

pub not_some : (x : Bool) → not x ≡ false → x ≡ true
not_some true e = refl
not_some false e = absurd (false≢true (sym e))

pub ascii_part : (s : List ℕ) (i n m : ℕ) → i + n ≤ length s → m ≡ n → is_ascii (take m (drop i s)) ≡ true → (k : ℕ) → k < n → get_or s (i + k) 0 < 0x80
ascii_part s i n m h q e k l = leb-false 0x80 _ (none_passes_part (λ b. leb 0x80 b) s i n m q h (not_none _ e) k l)

-- std's test of ASCII, by its value
pub ascii_told : (s : List ℕ) (r : Bool) → MatchBool r (IsAscii s) (IsNotAscii s) → r ≡ is_ascii s
ascii_told s true h = rw (list_any_none (λ b. leb 0x80 b) s (All-from_get_or (λ b. leb 0x80 b ≡ false) s 0 (λ i g. lt-leb 0x80 _ (h i)))) refl
ascii_told s false h = rw (list_any_at (λ b. leb 0x80 b) s h.0 0 inside (le-leb 0x80 _ h.1)) refl
  where
    inside : h.0 < length s
    inside =
        ⊎_elim (λ (o : length s ≤ h.0). let z : ⊥ = omega (arith, h.1, get_or_past s h.0 0 o) in absurd z) (λ (l : h.0 < length s). l)
        (le_or_lt (length s) h.0)

-- a run of ASCII
pub ascii_run : (s : List ℕ) (i n : ℕ) → i + n ≤ length s → ((k : ℕ) → k < n → get_or s (i + k) 0 < 0x80)
    → well_formed [] (drop i s) ≡ well_formed [] (drop (i + n) s)
ascii_run s i zero h l = rw add-zero
ascii_run s i (suc n) h l =
    let q : i + n + 1 ≡ i + suc n = omega arith in
    ascii_run s i n (omega arith) (λ k g. l k (omega arith)) ∙ one_at s (i + n) (omega arith) (l n (omega arith)) ∙ ap (λ (k : ℕ). well_formed [] (drop k s)) q

-- a byte shifted by 6 tells whether it starts a character
pub adds-by : (b : ℕ) → (b / 64 ≡ 2 → ⊥) → adds b ≡ 1
adds-by b n =
    ⊎_elim (λ (l : 0x80 ≤ b). ⊎_elim (λ (m : b ≤ 0xBF). absurd (n (omega arith))) (λ (m : 0xBF < b). adds-high b m) (le_or_lt b 0xBF))
    (λ (l : b < 0x80). adds-low b l) (le_or_lt 0x80 b)

pub adds-not : (b : ℕ) → b / 64 ≡ 2 → adds b ≡ 0
adds-not b e = adds_none b (omega arith) (omega arith)

-- and so does the test of that
pub adds_start : (b : ℕ) {r : Bool} → r ≡ not (continues b) → r ≡ true → adds b ≡ 1
unfolding when◌then◌else◌
adds_start b e f = rw (not_none (continues b) (sym e ∙ f))

pub adds_more : (b : ℕ) {r : Bool} → r ≡ not (continues b) → r ≡ false → adds b ≡ 0
unfolding when◌then◌else◌
adds_more b e f = rw (not_some (continues b) (sym e ∙ f))

-- the number of characters as a count
counted : (x : Bool) (n : ℕ) → (when x then 0 else 1) + n ≡ cond (not x) (1 + n) n
unfolding when◌then◌else◌
counted true n = omega arith
counted false n = refl

pub characters_counted : (s : List ℕ) → characters s ≡ count_by (λ b. not (continues b)) s
characters_counted s = is_count_by characters (λ b. not (continues b)) refl (λ b s. counted (continues b) (characters s)) s
