-- What the functions inside this crate promise each other; no rule of 01 or of the Unicode standard stands here.
use Rattle.std.specs.Prelude.{◌≡◌, Bool, true, false, not, List, ℕ, ◌≤◌, ◌<◌, ◌+◌, ◌-◌, length, drop, get_or, leb, eqb, bit_xor}
use Rattle.std.specs.List.{list_any}
use Rattle.utf8.specs.InnerNeighbours.{beside, sound, follows, go_on}

-- each of some bytes is ASCII
abbrev pub is_ascii : List ℕ → Bool
is_ascii s = not (list_any (λ b. leb 0x80 b) s)

-- the bytes before i are ASCII
pub record Ascii (s : List ℕ) (i : ℕ) : Type 0 where
  pub room : i ≤ length s
  pub each : (k : ℕ) → k < i → get_or s k 0 < 0x80

-- the bytes from a up to b are ASCII
pub record AsciiPart (s : List ℕ) (a b : ℕ) : Type 0 where
  pub each : (k : ℕ) → a ≤ k → k < b → get_or s k 0 < 0x80

-- the bytes from i on stand beside those before them, of which there are three
abbrev pub sound_at : List ℕ → ℕ → Bool
sound_at s i = sound (get_or s (i - 3) 0) (get_or s (i - 2) 0) (get_or s (i - 1) 0) (drop i s)

-- the byte at i may stand after the three before it
abbrev pub beside_at : List ℕ → ℕ → Bool
beside_at s i = beside (get_or s (i - 3) 0) (get_or s (i - 2) 0) (get_or s (i - 1) 0) (get_or s i 0)

-- where r is false, each byte from a up to b may stand after the three before it; else one may not
pub record Tested (s : List ℕ) (a b : ℕ) (r : Bool) : Type 0 where
  pub all : r ≡ false → (k : ℕ) → a ≤ k → k < b → beside_at s k ≡ true
  pub some : r ≡ true → (k : ℕ) × (a ≤ k) × (k < b) × (beside_at s k ≡ false)

-- where r is true, 32 bytes from a on are ASCII, and no character is open before them
pub record Plain (s : List ℕ) (a : ℕ) (r : Bool) : Type 0 where
  pub room : r ≡ true → a + 32 ≤ length s
  pub skips : r ≡ true → sound_at s a ≡ sound_at s (a + 32)

-- v has 16 lanes, which say of two neighbouring bytes each whether the second may follow the first (0), or both go on with a character (128)
pub record Classes (p b v : List ℕ) : Type 0 where
  pub long : length v ≡ 16
  pub follow : (k : ℕ) → k < 16 → eqb (get_or v k 0) 0 ≡ follows (get_or p k 0) (get_or b k 0)
  pub goes : (k : ℕ) → k < 16 → eqb (bit_xor 128 (get_or v k 0)) 0 ≡ go_on (get_or p k 0) (get_or b k 0)

-- v has 16 lanes, which are 0 where the byte at that place from `at` on may stand after the three before it
pub record Lanes (s : List ℕ) (at : ℕ) (v : List ℕ) : Type 0 where
  pub long : length v ≡ 16
  pub each : (k : ℕ) → k < 16 → eqb (get_or v k 0) 0 ≡ beside_at s (at + k)

-- r says whether one of the 16 lanes of v is not 0
pub record Any (v : List ℕ) (r : Bool) : Type 0 where
  pub none : r ≡ false → (k : ℕ) → k < 16 → get_or v k 0 ≡ 0
  pub one : r ≡ true → (k : ℕ) × (k < 16) × (get_or v k 0 ≡ 0 → ⊥)
