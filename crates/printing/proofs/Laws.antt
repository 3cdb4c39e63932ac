-- Characters counted one after another, and ASCII bytes counted by blocks. Assumes nothing.
use Rattle.printing.proofs.Names.{ℕ, zero, suc, ◌+◌, ◌≤◌, ◌<◌, ◌≡◌, sym, ap, ◌∙◌, length, get_or, arith, Read, read_character, ascii_at}
use mathlib.Core.Path.{refl}
use mathlib.Core.Bool.{Bool, true, false, not, ◌&&◌}
use mathlib.Core.List.{List, [], ◌∷◌}
use lib.Dec.{ltb}
use lib.ListN.{take, drop, length-drop}
use lib.Seq.{get_or-drop, length-take-le, drop-length}
use native.Mathlib.Nat.{add-zero}
use native.Mathlib.Numerals.{add-one}
use borrow.Author.Tests.{lt-ltb}
use Rattle.std.specs.Prelude.{cond}
use Rattle.std.specs.List.{count_by}
use Rattle.std.proofs.lemmas.List.Sums.{count_by-le-length, count_by_more_yes, count_by_more_no}
use Rattle.base.proofs.Bytes.{byte}
use Rattle.utf8.specs.Utf8.{utf8}
use Rattle.utf8.specs.InnerParts.{is_ascii}
use Rattle.utf8.proofs.Laws.{one_at, ascii_part, ascii_run}
use Rattle.white.specs.White.{whites, white, printing, printing_count}
use Rattle.white.proofs.Counting.{printing-not, printing-one, counted_all}
use Rattle.printing.specs.InnerParts.{ascii_white, ascii_prints, Went}

-- Bytes

-- computed at all 128
ascii_white_lem : (b : ℕ) → b < 0x80 → white b ≡ ascii_white b
unfolding white whites
ascii_white_lem b h =
    let e = byte (λ c. ltb c 0x80 && white c) (λ c. ltb c 0x80 && ascii_white c) refl b (omega arith) in
    rw (lt-ltb b 0x80 h) at e

-- Blocks

-- one ASCII byte
one_byte : (s : List ℕ) (at : ℕ) → at < length s → get_or s at 0 < 0x80
    → length (printing (drop at s)) ≡ cond (ascii_prints (get_or s at 0)) 1 0 + length (printing (drop (at + 1) s))
unfolding ascii_prints
one_byte s at h l = go (ascii_white (get_or s at 0)) refl
  where
    go : (x : Bool) → ascii_white (get_or s at 0) ≡ x → length (printing (drop at s)) ≡ cond (not x) 1 0 + length (printing (drop (at + 1) s))
    go true e = omega (arith, printing-not s at _ (at + 1) (read_character s at _ (at + 1) (sym (ascii_at s at h l))) (ascii_white_lem _ l ∙ e))
    go false e = omega (arith, printing-one s at _ (at + 1) (read_character s at _ (at + 1) (sym (ascii_at s at h l))) (ascii_white_lem _ l ∙ e))

count_one_more : (p : ℕ → Bool) (xs : List ℕ) (k : ℕ) → k < length xs → count_by p (take (k + 1) xs) ≡ count_by p (take k xs) + cond (p (get_or xs k 0)) 1 0
count_one_more p xs k h = go (p (get_or xs k 0)) refl
  where
    go : (x : Bool) → p (get_or xs k 0) ≡ x → count_by p (take (k + 1) xs) ≡ count_by p (take k xs) + cond x 1 0
    go true e = count_by_more_yes p xs k 0 h e
    go false e = count_by_more_no p xs k 0 h e ∙ sym (add-zero _)

bytes_count : (s : List ℕ) (a k : ℕ) → a + k ≤ length s → ((j : ℕ) → j < k → get_or s (a + j) 0 < 0x80)
    → length (printing (drop a s)) ≡ count_by ascii_prints (take k (drop a s)) + length (printing (drop (a + k) s))
bytes_count s a zero h l = omega (arith, ap (λ (n : ℕ). length (printing (drop n s))) (add-zero a))
bytes_count s a (suc k) h l =
    let e : a + k + 1 ≡ a + suc k = omega arith in
    let i = bytes_count s a k (omega arith) (λ j g. l j (omega arith)) in
    let m = count_one_more ascii_prints (drop a s) k (omega (arith, length-drop a s)) in
    let n = rw (add-one k, get_or-drop a s k 0) at m in
    omega (arith, i, n, one_byte s (a + k) (omega arith) (l k (omega arith)), ap (λ (n : ℕ). length (printing (drop n s))) e)

-- 64 ASCII bytes
pub block_went : (s : List ℕ) (m : ℕ) {n : ℕ} → 64 ≤ length s → m ≡ 64 → is_ascii (take m s) ≡ true → n ≡ count_by ascii_prints (take m s) → Went s 64 n
block_went s m h e t f =
    let each = ascii_part s 0 64 m h e t in
    let g = rw e at f in
    let c = bytes_count s 0 64 h each in
    record {
      some = omega arith;
      room = h;
      few = omega (arith, g, count_by-le-length ascii_prints (take 64 s), length-take-le 64 s h);
      text = ascii_run s 0 64 h each;
      prints = omega (arith, c, g);
    }

-- Characters

-- the bytes before i are whole characters, of which n print
pub record Reached (s : List ℕ) (i n : ℕ) : Type 0 where
  pub room : i ≤ length s
  pub few : n ≤ i
  pub text : utf8 s ≡ utf8 (drop i s)
  pub prints : length (printing s) ≡ n + length (printing (drop i s))

-- one ASCII byte
module _ (s : List ℕ) (i n : ℕ) (g : Reached s i n) (h : i < length s) (l : get_or s i 0 < 0x80) where
  pub reached_print : {m : ℕ} → m ≡ n + 1 → ascii_prints (get_or s i 0) ≡ true → Reached s (i + 1) m
  reached_print e t = record {
    room = omega arith;
    few = omega (arith, g.few);
    text = g.text ∙ one_at s i h l;
    prints = omega (arith, g.prints, rw t at (one_byte s i h l));
  }

  pub reached_blank : {m : ℕ} → m ≡ n → ascii_prints (get_or s i 0) ≡ false → Reached s (i + 1) m
  reached_blank e t = record {
    room = omega arith;
    few = omega (arith, g.few);
    text = g.text ∙ one_at s i h l;
    prints = omega (arith, g.prints, rw t at (one_byte s i h l));
  }

module _ (s : List ℕ) (i n c next : ℕ) (g : Reached s i n) (r : Read s i c next) where
  pub reached_one : white c ≡ false → Reached s next (n + 1)
  reached_one w = record {
    room = r.room;
    few = omega (arith, g.few, r.later);
    text = g.text ∙ r.text;
    prints = omega (arith, g.prints, printing-one s i c next r w);
  }

  pub reached_white : white c ≡ true → Reached s next n
  reached_white w = record {
    room = r.room;
    few = omega (arith, g.few, r.later);
    text = g.text ∙ r.text;
    prints = omega (arith, g.prints, printing-not s i c next r w);
  }

-- the characters of s are those of a rest, of which as many bytes or more are before it, and n that print
pub record Left (s rest : List ℕ) (n : ℕ) : Type 0 where
  pub few : n + length rest ≤ length s
  pub text : utf8 s ≡ utf8 rest
  pub prints : length (printing s) ≡ n + length (printing rest)

-- where none is left
pub left_done : (s rest : List ℕ) (n : ℕ) → Left s rest n → length rest ≡ 0 → n ≡ printing_count s
left_done s [] n g h = counted_all s (length s) n (omega arith) (rw (drop-length s) g.text) (rw (drop-length s) g.prints)
left_done s (b ∷ rest) n g h = let z : ⊥ = omega arith in absurd z
