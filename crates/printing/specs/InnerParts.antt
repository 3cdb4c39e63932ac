-- What the functions inside this crate promise each other; no rule of 01 or of the Unicode standard stands here.
use Rattle.std.specs.Prelude.{ℕ, ◌+◌, ◌≤◌, ◌<◌, ◌≡◌, Bool, not, ◌&&◌, ◌||◌, List, eqb, leb, length, drop}
use Rattle.utf8.specs.Utf8.{utf8}
use Rattle.white.specs.White.{printing}

-- an ASCII byte is White_Space (the law `ascii_white_lem`)
abbrev pub ascii_white : ℕ → Bool
ascii_white b = eqb b 0x20 || (leb 0x09 b && leb b 0x0D)

unfoldable pub ascii_prints : ℕ → Bool
ascii_prints b = not (ascii_white b)

-- the first k bytes are whole characters, of which n print
pub record Went (s : List ℕ) (k n : ℕ) : Type 0 where
  pub some : 0 < k
  pub room : k ≤ length s
  pub few : n ≤ k
  pub text : utf8 s ≡ utf8 (drop k s)
  pub prints : length (printing s) ≡ n + length (printing (drop k s))
