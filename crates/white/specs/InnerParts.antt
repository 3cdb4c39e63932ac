-- What the functions inside this crate promise each other; no rule of 01 or of the Unicode standard stands here.
use Rattle.std.specs.Prelude.{Bool, true, false, ◌&&◌, eqb, List, [], ◌∷◌, ℕ, ◌-◌, length, drop}
use Rattle.base.specs.Choice.{when◌then◌else◌}
use Rattle.utf8.specs.Utf8.{encode}
use Rattle.white.specs.White.{whites, any}

-- the same bytes
abbrev pub same : List ℕ → List ℕ → Bool
same [] [] = true
same [] (y ∷ ys) = false
same (x ∷ xs) [] = false
same (x ∷ xs) (y ∷ ys) = eqb x y && same xs ys

-- the bytes are one White_Space character
unfoldable pub white_bytes : List ℕ → Bool
white_bytes w = any (λ c. same w (encode c)) whites

-- the last k bytes of s
abbrev pub last : ℕ → List ℕ → List ℕ
last k s = drop (length s - k) s

-- how many bytes the White_Space character at the end of s has, 0 where none stands there
unfoldable pub white_size : List ℕ → ℕ
white_size s =
    when white_bytes (last 1 s) then 1 else
    when white_bytes (last 2 s) then 2 else
    when white_bytes (last 3 s) then 3 else 0
