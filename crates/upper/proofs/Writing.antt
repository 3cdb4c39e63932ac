-- Bytes written after those of a buffer, and the bytes of the characters that one maps to. Assumes nothing.
use Rattle.upper.proofs.Names.{◌≡◌, refl, sym, ap, ◌∙◌, ⊎_elim, Bool, true, false, List, [], ◌∷◌, ◌++◌, append_assoc, ℕ, ◌+◌, ◌/◌, ◌%◌, ◌<◌, ◌≤◌, arith}
use Rattle.upper.proofs.Names.{leb, ltb, length, take, drop, length-append, length-take-le, lt-ltb, le-ltb, le-leb, le_or_lt}
use Rattle.upper.proofs.Names.{leb-true, when◌then◌else◌, among, and_left, and_right, encode, scalar, Wrote}
use Rattle.std.specs.Prelude.{cond, Option, Some, None}
use Rattle.std.specs.Option.{SomeIff, unwrap_or}
use Rattle.std.specs.Char.{IsScalar}
unfoldable use Rattle.std.specs.Char.{encode_utf8}
use lib.Utf8.{low_scalar}
use lib.Seq.{take-append_seam, take-suc-set}
use lib.ListN.{set}
use native.Mathlib.Numerals.{add-one}
use Rattle.base.specs.Bytes.{overwritten}
use Rattle.base.proofs.Pasting.{overwritten_fits}

-- bytes, and then some more
pub then_wrote : {a b d : List ℕ} {len m n r t : ℕ} {x y : List ℕ} → Wrote a b len m x r → Wrote b d r n y t → Wrote a d len (m + n) (x ++ y) t
then_wrote {a} {b} {d} {len} {m} {n} {r} {t} {x} {y} f g = record {
  within = omega (arith, f.within, g.within);
  text = g.text ∙ ap (λ (l : List ℕ). l ++ y) f.text ∙ append_assoc (take len a) x y;
}

pub wrote_as : {a b : List ℕ} {len m n r : ℕ} {x y : List ℕ} → Wrote a b len m x r → m ≤ n → x ≡ y → Wrote a b len n y r
wrote_as f h e = record { within = omega (arith, f.within); text = rw (← e) f.text }

-- table 3-6, line by line
module _ (c : ℕ) where
  pub encoded_1 : c < 0x80 → c ∷ [] ≡ encode c
  unfolding when◌then◌else◌ encode
  encoded_1 h = rw (lt-ltb c 0x80 h)

  pub encoded_2 : 0x80 ≤ c → c < 0x800 → (0xC0 + c / 64) ∷ (0x80 + c % 64) ∷ [] ≡ encode c
  unfolding when◌then◌else◌ encode
  encoded_2 g h = rw (le-ltb c 0x80 g, lt-ltb c 0x800 h)

  pub encoded_3 : 0x80 ≤ c → 0x800 ≤ c → c < 0x10000 → (0xE0 + c / 4096) ∷ (0x80 + c / 64 % 64) ∷ (0x80 + c % 64) ∷ [] ≡ encode c
  unfolding when◌then◌else◌ encode
  encoded_3 f g h = rw (le-ltb c 0x80 f, le-ltb c 0x800 g, lt-ltb c 0x10000 h)

  pub encoded_4 : 0x80 ≤ c → 0x800 ≤ c → 0x10000 ≤ c
      → (0xF0 + c / 262144) ∷ (0x80 + c / 4096 % 64) ∷ (0x80 + c / 64 % 64) ∷ (0x80 + c % 64) ∷ [] ≡ encode c
  unfolding when◌then◌else◌ encode
  encoded_4 f g h = rw (le-ltb c 0x80 f, le-ltb c 0x800 g, le-ltb c 0x10000 h)

-- the library's bytes of a character are these, and its characters are those of the standard
chosen : (x y z : Bool) (a b c d : List ℕ) → cond x a (cond y b (cond z c d)) ≡ when x then a else when y then b else when z then c else d
unfolding when◌then◌else◌
chosen true y z a b c d = refl
chosen false true z a b c d = refl
chosen false false true a b c d = refl
chosen false false false a b c d = refl

pub encode_utf8_is : (c : ℕ) → encode_utf8 c ≡ encode c
unfolding encode encode_utf8
encode_utf8_is c = chosen (ltb c 0x80) (ltb c 0x800) (ltb c 0x10000) _ _ _ _

pub high_scalar : (c : ℕ) → 0xE000 ≤ c → c < 0x110000 → IsScalar c
high_scalar c l h = rw (le-ltb c 0xD800 (omega arith), le-leb 0xE000 c l, lt-ltb c 0x110000 h) refl

pub char_is : (c : ℕ) → scalar c ≡ true → IsScalar c
unfolding scalar
char_is c s =
    ⊎_elim
    (λ (g : 0xD800 ≤ c).
    let a : among 0xE000 0x10FFFF c ≡ true = rw (le-ltb c 0xD800 g) at s in
    let l = leb-true 0xE000 c (and_left (leb 0xE000 c) (leb c 0x10FFFF) a) in
    let h = leb-true c 0x10FFFF (and_right (leb 0xE000 c) (leb c 0x10FFFF) a) in high_scalar c l (omega arith))
    (λ (l : c < 0xD800). low_scalar c l) (le_or_lt 0xD800 c)

pub char_given : (o : Option ℕ) (n d : ℕ) → SomeIff o (IsScalar n) n → IsScalar n → unwrap_or o d ≡ n
char_given (Some x) n d s h = s.1
char_given None n d s h = absurd (s h)

-- bytes copied after those of a buffer
pub put_wrote : (old new x : List ℕ) (len : ℕ) → len + 4 ≤ length old → length x ≤ 4 → new ≡ overwritten old len x → Wrote old new len 4 x (len + length x)
put_wrote old new x len h l e =
    let n : length (take len old ++ x) ≡ len + length x = omega (arith, length-append (take len old) x, length-take-le len old (omega arith)) in
    let after = drop (len + length x) old in
    let all : new ≡ (take len old ++ x) ++ after = e ∙ overwritten_fits old len x (omega arith) in
    record {
      within = omega arith;
      text = ap (take (len + length x)) all ∙ ap (λ (k : ℕ). take k ((take len old ++ x) ++ after)) (sym n) ∙ take-append_seam (take len old ++ x) after;
    }

-- one byte of ASCII
pub ascii_wrote : (old : List ℕ) (len c : ℕ) → len < length old → c < 0x80 → Wrote old (set old len c) len 4 (encode c) (len + 1)
ascii_wrote old len c h l = record {
  within = omega arith;
  text = rw add-one (take-suc-set old len c h) ∙ ap (λ (x : List ℕ). take len old ++ x) (encoded_1 c l);
}
