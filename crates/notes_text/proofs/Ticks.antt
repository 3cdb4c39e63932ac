-- Backticks, as they are looked for. Assumes nothing.
use Rattle.notes_text.proofs.Names.{ℕ, zero, suc, ◌+◌, ◌*◌, ◌-◌, ◌≤◌, ◌<◌, ◌≡◌, refl, sym, ap, ap₂, ◌∙◌, ⊎_elim, Bool, true, false, ◌||◌, not}
use Rattle.notes_text.proofs.Names.{List, [], ◌∷◌, ◌++◌, eqb, length, take, drop, length-drop, take-append-drop}
use Rattle.notes_text.proofs.Names.{arith, lt-ltb, le-ltb, ne_eqb, le_or_lt, or_false, ticked, Tick, get_or, drop-cons, drop-drop}
use Rattle.notes_text.proofs.Names.{drop_of_length-le, length-take-le}
use Rattle.notes_text.specs.InnerParts.{Free, Last}
use Rattle.base.proofs.Parts.{part_end}
use lib.Seq.{get_or-drop, get_or-take}
use lib.Dec.{ltb}
use lib.Seq.{take-add, take_all}
use Prim.Native.Nat.compare
use mathlib.Core.Bool.{cond}
use Rattle.std.specs.List.{list_any, position_or_len}
use Rattle.std.specs.Simd.{first_chunks}
use Rattle.buffer.proofs.Positions.{position-short}

ticked-append : (x y : List ℕ) → ticked (x ++ y) ≡ (ticked x || ticked y)
unfolding ticked
ticked-append [] y = refl
ticked-append (b ∷ x) y = go (eqb b 0x60) (ticked-append x y)
  where
    go : (t : Bool) → ticked (x ++ y) ≡ (ticked x || ticked y) → (t || ticked (x ++ y)) ≡ ((t || ticked x) || ticked y)
    go true e = refl
    go false e = e

-- a test of a byte
abbrev pub is_tick : ℕ → Bool
is_tick b = eqb b 0x60

pub any-ticked : (s : List ℕ) → list_any is_tick s ≡ ticked s
unfolding ticked
any-ticked [] = refl
any-ticked (b ∷ s) = ap (λ (t : Bool). eqb b 0x60 || t) (any-ticked s)

-- up to the first one there is none
bytes_free : (xs : List ℕ) → ticked (take (position_or_len is_tick xs) xs) ≡ false
unfolding ticked
bytes_free [] = refl
bytes_free (b ∷ xs) = go (bytes_free xs) (eqb b 0x60) refl
  where
    go : ticked (take (position_or_len is_tick xs) xs) ≡ false → (t : Bool) → eqb b 0x60 ≡ t
        → ticked (take (cond (not t) (1 + position_or_len is_tick xs) 0) (b ∷ xs)) ≡ false
    go h true e = refl
    go h false e = let f : 1 + position_or_len is_tick xs ≡ suc (position_or_len is_tick xs) = omega arith in rw (f, e) h

-- there is a first one if there is one
bytes-hit : (xs : List ℕ) → ltb (position_or_len is_tick xs) (length xs) ≡ ticked xs
unfolding ticked
bytes-hit [] = refl
bytes-hit (b ∷ xs) = go (bytes-hit xs) (eqb b 0x60)
  where
    go : ltb (position_or_len is_tick xs) (length xs) ≡ ticked xs → (t : Bool)
        → ltb (cond (not t) (1 + position_or_len is_tick xs) 0) (suc (length xs)) ≡ (t || ticked xs)
    go h true = lt-ltb 0 (suc (length xs)) (omega arith)
    go h false = let f : 1 + position_or_len is_tick xs ≡ suc (position_or_len is_tick xs) = omega arith in rw (f, compare.suc-suc) h

-- the blocks up to the first that has one have none
pub blocks_free : (n k : ℕ) (xs : List ℕ) → ticked (take (position_or_len ticked (first_chunks n k xs) * n) xs) ≡ false
unfolding ticked
blocks_free n zero xs = let e : 0 * n ≡ 0 = omega arith in rw e refl
blocks_free n (suc k) xs = go (position_or_len ticked (first_chunks n k (drop n xs))) (blocks_free n k (drop n xs)) (ticked (take n xs)) refl
  where
    go : (p : ℕ) → ticked (take (p * n) (drop n xs)) ≡ false → (t : Bool) → ticked (take n xs) ≡ t → ticked (take (cond (not t) (1 + p) 0 * n) xs) ≡ false
    go p h true e = let f : 0 * n ≡ 0 = omega arith in rw f refl
    go p h false e =
        let f : (1 + p) * n ≡ n + p * n = omega arith in
        rw (f, take-add n (p * n) xs, ticked-append (take n xs), e) h

-- the first one, past m bytes that have none, where the bytes behind them are looked at one by one
module _ (s : List ℕ) (m : ℕ) (w : m ≤ length s) (f : ticked (take m s) ≡ false) where
  abbrev pub first : ℕ
  first = position_or_len is_tick (drop m s)

  pub tick_found : Tick s (m + first)
  tick_found =
      let l = length-drop m s in
      let short = position-short is_tick (drop m s) in
      record {
        inside = omega arith;
        none = ap ticked (take-add m first s) ∙ ticked-append (take m s) (take first (drop m s)) ∙ ap₂ ◌||◌ f (bytes_free (drop m s));
        more = same_test (omega arith) (omega arith) ∙ bytes-hit (drop m s)
            ∙ sym (ap ticked (sym (take-append-drop m s)) ∙ ticked-append (take m s) (drop m s) ∙ ap (λ (t : Bool). t || ticked (drop m s)) f);
      }
    where
      same_test : first ≤ length (drop m s) → length s ≡ m + length (drop m s) → ltb (m + first) (length s) ≡ ltb first (length (drop m s))
      same_test o e =
          ⊎_elim (λ (g : length (drop m s) ≤ first). le-ltb (m + first) (length s) (omega arith) ∙ sym (le-ltb first (length (drop m s)) g))
          (λ (g : first < length (drop m s)). lt-ltb (m + first) (length s) (omega arith) ∙ sym (lt-ltb first (length (drop m s)) g))
          (le_or_lt (length (drop m s)) first)

-- the same, as the library's methods find them
pub tick_by : (s : List ℕ) (k p q : ℕ) → p * 64 ≤ length s → p ≡ position_or_len ticked (first_chunks 64 k s)
    → q ≡ position_or_len is_tick (take (length s - p * 64) (drop (p * 64) s)) → Tick s (p * 64 + q)
tick_by s k p q j e f =
    let none : ticked (take (p * 64) s) ≡ false = ap (λ (n : ℕ). ticked (take (n * 64) s)) e ∙ blocks_free 64 k s in
    let behind : take (length s - p * 64) (drop (p * 64) s) ≡ drop (p * 64) s =
    take_all (length s - p * 64) (drop (p * 64) s) (omega (arith, length-drop (p * 64) s)) in
    let r : q ≡ position_or_len is_tick (drop (p * 64) s) = rw behind at f in
    rw r (tick_found s (p * 64) j none)

-- The last one

true-last : (t : Bool) → (t || true) ≡ true
true-last true = refl
true-last false = refl

-- some bytes, and those behind the first k
module _ (k : ℕ) (xs : List ℕ) where
  ticked-split : ticked xs ≡ (ticked (take k xs) || ticked (drop k xs))
  ticked-split = ap ticked (sym (take-append-drop k xs)) ∙ ticked-append (take k xs) (drop k xs)

  ticked_before : ticked (drop k xs) ≡ true → ticked xs ≡ true
  ticked_before e = ticked-split ∙ ap (λ (t : Bool). ticked (take k xs) || t) e ∙ true-last (ticked (take k xs))

  free_behind : ticked xs ≡ false → ticked (drop k xs) ≡ false
  free_behind e = let f = or_false (ticked (take k xs)) (ticked (drop k xs)) (sym ticked-split ∙ e) in f.1

-- no byte is one
pub free_by : (xs : List ℕ) → ((j : ℕ) → j < length xs → get_or xs j 0 ≡ 0x60 → ⊥) → ticked xs ≡ false
unfolding ticked
free_by [] h = refl
free_by (b ∷ xs) h =
    let first : eqb b 0x60 ≡ false = ne_eqb b 0x60 (h 0 (omega arith)) in
    rw first (free_by xs (λ j l. h (suc j) (omega arith)))

-- none stands from a place on: none is in the blocks that stand there
pub free_end : (s : List ℕ) → Free s (length s)
unfolding ticked
free_end s = record { inside = omega arith; none = rw (drop_of_length-le s {i = length s} (omega arith)) refl }

pub free_block : (s block : List ℕ) (end : ℕ) → Free s end → 64 ≤ length (take end s) → block ≡ drop (length (take end s) - 64) (take end s)
    → ticked block ≡ false → Free s (end - 64)
free_block s block end f h e n =
    let size : length (take end s) ≡ end = length-take-le end s f.inside in
    let x = drop (end - 64) s in
    let y : end - (end - 64) ≡ 64 = omega arith in
    let z : end - 64 + 64 ≡ end = omega arith in
    let same : block ≡ take 64 x = rw y at (e ∙ ap (λ (i : ℕ). drop (i - 64) (take end s)) size ∙ sym (part_end end (end - 64) s)) in
    let w : drop 64 x ≡ drop end s = drop-drop 64 (end - 64) s ∙ ap (λ (i : ℕ). drop i s) z in
    record {
      inside = omega (arith, f.inside);
      none = ticked-split 64 x ∙ ap₂ ◌||◌ (ap ticked (sym same) ∙ n) (ap ticked w ∙ f.none);
    }

-- how many bytes stand behind it
pub last_none : (s : List ℕ) → ticked s ≡ false → Last s (length s)
last_none s e = record {
  each = λ n. le-ltb (length s) (length (drop n s)) (omega (arith, length-drop n s)) ∙ sym (free_behind n s e);
}

module _ (s : List ℕ) (i : ℕ) (h : i < length s) (e : get_or s i 0 ≡ 0x60) (f : ticked (drop (i + 1) s) ≡ false) where
  here : ticked (drop i s) ≡ true
  unfolding ticked
  here = rw (drop-cons s i 0 h, e) refl

  -- from n on, at or before its place, or behind it
  tick_from : (n : ℕ) → n ≤ i → ticked (drop n s) ≡ true
  tick_from n l =
      let z : n + (i - n) ≡ i = omega arith in
      ticked_before (i - n) (drop n s) (ap ticked (drop-drop (i - n) n s ∙ ap (λ (j : ℕ). drop j s) z) ∙ here)

  free_from : (n : ℕ) → i + 1 ≤ n → ticked (drop n s) ≡ false
  free_from n l =
      let z : i + 1 + (n - (i + 1)) ≡ n = omega arith in
      ap ticked (sym (drop-drop (n - (i + 1)) (i + 1) s ∙ ap (λ (j : ℕ). drop j s) z)) ∙ free_behind (n - (i + 1)) (drop (i + 1) s) f

  pub last_at : Last s (length s - i - 1)
  last_at = record {
    each = λ n.
        ⊎_elim
        (λ (l : i + 1 ≤ n). le-ltb (length s - i - 1) (length (drop n s)) (omega (arith, length-drop n s)) ∙ sym (free_from n l))
        (λ (l : n < i + 1). lt-ltb (length s - i - 1) (length (drop n s)) (omega (arith, length-drop n s)) ∙ sym (tick_from n (omega arith)))
        (le_or_lt (i + 1) n);
  }

-- where the last one of the first m bytes stands, if none stands behind them
module _ (s : List ℕ) (m : ℕ) (f : Free s m) where
  pub last_found : (i : ℕ) → i < m → get_or (take m s) i 0 ≡ 0x60 → ((j : ℕ) → i + 1 ≤ j → j < m → get_or (take m s) j 0 ≡ 0x60 → ⊥)
      → Last s (length s - i - 1)
  last_found i h e n =
      let w : i < length s = omega (arith, f.inside) in
      let x = drop (i + 1) s in
      let z : i + 1 + (m - (i + 1)) ≡ m = omega arith in
      let t = take m s in
      let none : ticked (drop (i + 1) t) ≡ false =
      free_by (drop (i + 1) t) (λ j l q.
      n (i + 1 + j) (omega arith) (omega (arith, length-drop (i + 1) t, length-take-le m s f.inside)) (sym (get_or-drop (i + 1) t j 0) ∙ q)) in
      let front : ticked (take (m - (i + 1)) x) ≡ false = rw (part_end m (i + 1) s) none in
      let rest : ticked (drop (m - (i + 1)) x) ≡ false = ap ticked (drop-drop (m - (i + 1)) (i + 1) s ∙ ap (λ (j : ℕ). drop j s) z) ∙ f.none in
      last_at s i w (sym (get_or-take m s i 0 h) ∙ e) (ticked-split (m - (i + 1)) x ∙ ap₂ ◌||◌ front rest)

  pub last_missing : ((j : ℕ) → j < m → get_or (take m s) j 0 ≡ 0x60 → ⊥) → Last s (length s)
  last_missing n =
      let front = free_by (take m s) (λ j l q. n j (omega (arith, length-take-le m s f.inside)) q) in
      last_none s (ticked-split m s ∙ ap₂ ◌||◌ front f.none)

-- it stays the last one in what follows a backtick or other bytes
pub last_behind : {s : List ℕ} {r : ℕ} (k : ℕ) → Last s r → Last (drop k s) r
last_behind {s} {r} k l = record {
  each = λ n. let e = drop-drop n k s in ap (λ (x : List ℕ). ltb r (length x)) e ∙ l.each (k + n) ∙ ap ticked (sym e);
}

-- whether there is one
pub last_ticked : {s : List ℕ} {r : ℕ} → Last s r → ltb r (length s) ≡ ticked s
last_ticked l = l.each 0

-- there is none, where no more bytes are left than stand behind it
pub tick_none : {s : List ℕ} {r : ℕ} → Last s r → length s ≤ r → Tick s (length s)
tick_none {s} {r} l h =
    let free : ticked s ≡ false = sym (l.each 0) ∙ le-ltb r (length s) h in
    record {
      inside = omega arith;
      none = ap ticked (take_all (length s) s (omega arith)) ∙ free;
      more = le-ltb (length s) (length s) (omega arith) ∙ sym free;
    }
