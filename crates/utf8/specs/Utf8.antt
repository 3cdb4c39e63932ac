-- Well-formed UTF-8 by table 3-7 of the Unicode standard, the code points of a text and the bytes of a code point by its table 3-6.
use Rattle.std.specs.Prelude.{Bool, true, false, ◌&&◌, ◌||◌, List, [], ◌∷◌, ◌++◌, ℕ, suc, ◌+◌, ◌-◌, ◌*◌, ◌/◌, ◌%◌, ltb, length, take, drop, Option, Some, None}
use Prim.Native.Char.{code}
use Prim.Native.String.{String}
use Prim.Native.String as str
use Rattle.base.specs.Choice.{when◌then◌else◌, among}

-- the bytes from the first to the second
pub data Range : Type 0 where
  ◌to◌ : ℕ → ℕ → Range

infix 68 ◌to◌
abbrev pub within : ℕ → Range → Bool
within b (lo to hi) = among lo hi b

-- a line of table 3-7: the first byte, and the bytes after it; `lead` is the first byte whose payload is 0 (table 3-6)
pub record Row : Type 0 where
  pub first : Range
  pub lead : ℕ
  pub after : List Range

abbrev row : Range → ℕ → List Range → Row
row f l a = record { first = f; lead = l; after = a }

unfoldable pub table : List Row
table =
    row (0x00 to 0x7F) 0x00 []
    ∷ row (0xC2 to 0xDF) 0xC0 (0x80 to 0xBF ∷ [])
    ∷ row (0xE0 to 0xE0) 0xE0 (0xA0 to 0xBF ∷ 0x80 to 0xBF ∷ [])
    ∷ row (0xE1 to 0xEC) 0xE0 (0x80 to 0xBF ∷ 0x80 to 0xBF ∷ [])
    ∷ row (0xED to 0xED) 0xE0 (0x80 to 0x9F ∷ 0x80 to 0xBF ∷ [])
    ∷ row (0xEE to 0xEF) 0xE0 (0x80 to 0xBF ∷ 0x80 to 0xBF ∷ [])
    ∷ row (0xF0 to 0xF0) 0xF0 (0x90 to 0xBF ∷ 0x80 to 0xBF ∷ 0x80 to 0xBF ∷ [])
    ∷ row (0xF1 to 0xF3) 0xF0 (0x80 to 0xBF ∷ 0x80 to 0xBF ∷ 0x80 to 0xBF ∷ [])
    ∷ row (0xF4 to 0xF4) 0xF0 (0x80 to 0x8F ∷ 0x80 to 0xBF ∷ 0x80 to 0xBF ∷ [])
    ∷ []

-- a byte that starts no character is followed by a byte of no range
abbrev pub never : Row
never = row (0x00 to 0xFF) 0x00 (0xFF to 0x80 ∷ [])

-- the line that has b for a first byte
abbrev pub find : List Row → ℕ → Row
find [] b = never
find (r ∷ rs) b = when within b r.first then r else find rs b

unfoldable pub row_of : ℕ → Row
row_of b = find table b

-- s is the bytes of the ranges `due`, and then whole characters
abbrev pub well_formed : List Range → List ℕ → Bool
well_formed [] [] = true
well_formed (r ∷ due) [] = false
well_formed [] (b ∷ s) = well_formed (row_of b).after s
well_formed (r ∷ due) (b ∷ s) = within b r && well_formed due s

-- s is well-formed UTF-8
abbrev pub utf8 : List ℕ → Bool
utf8 s = well_formed [] s

-- a character is complete once no byte is due
abbrev pub emit : List Range → ℕ → List ℕ → List ℕ
emit [] c cs = c ∷ cs
emit (r ∷ due) c cs = cs

-- the code points of s, of which `c` has been read of one that `due` completes
abbrev pub decode_from : List Range → ℕ → List ℕ → List ℕ
decode_from due c [] = []
decode_from [] c (b ∷ s) = emit (row_of b).after (b - (row_of b).lead) (decode_from (row_of b).after (b - (row_of b).lead) s)
decode_from (r ∷ due) c (b ∷ s) = emit due (c * 64 + (b - 0x80)) (decode_from due (c * 64 + (b - 0x80)) s)

-- the code points of a text; of what is not UTF-8 it says nothing
abbrev pub decode : List ℕ → List ℕ
decode s = decode_from [] 0 s

-- s begins with bytes of these ranges
abbrev pub begins : List Range → List ℕ → Bool
begins [] s = true
begins (r ∷ rs) [] = false
begins (r ∷ rs) (b ∷ s) = within b r && begins rs s

-- how many bytes the character at the head of s has, by its line of table 3-7; 0 where none stands there
unfoldable pub size_of : List ℕ → ℕ
size_of [] = 0
size_of (b ∷ s) = when begins (row_of b).after s then suc (length (row_of b).after) else 0

-- the first of some code points, and the place after it
abbrev pub first_of : List ℕ → ℕ → Option (ℕ × ℕ)
first_of [] next = None
first_of (c ∷ cs) next = Some (c, next)

-- the character whose bytes stand at `at`, and the place after them; or that none stands there, nor past the end
unfoldable pub character_at : List ℕ → ℕ → Option (ℕ × ℕ)
character_at s at = first_of (decode (take (size_of (drop at s)) (drop at s))) (at + size_of (drop at s))

-- a byte that goes on with a character
abbrev pub continues : ℕ → Bool
continues b = among 0x80 0xBF b

-- 01: 'every byte outside 0x80 to 0xBF counts as a character'; of UTF-8 these are its code points (the law `count_is`)
abbrev pub characters : List ℕ → ℕ
characters [] = 0
characters (b ∷ s) = (when continues b then 0 else 1) + characters s

-- table 3-6: the bytes of a code point
unfoldable pub encode : ℕ → List ℕ
encode c =
    when ltb c 0x80 then c ∷ [] else
    when ltb c 0x800 then (0xC0 + c / 64) ∷ (0x80 + c % 64) ∷ [] else
    when ltb c 0x10000 then (0xE0 + c / 4096) ∷ (0x80 + c / 64 % 64) ∷ (0x80 + c % 64) ∷ [] else
    (0xF0 + c / 262144) ∷ (0x80 + c / 4096 % 64) ∷ (0x80 + c / 64 % 64) ∷ (0x80 + c % 64) ∷ []

abbrev pub encode_all : List ℕ → List ℕ
encode_all [] = []
encode_all (c ∷ cs) = encode c ++ encode_all cs

-- a Unicode scalar value: a code point that is no surrogate
unfoldable pub scalar : ℕ → Bool
scalar c = ltb c 0xD800 || among 0xE000 0x10FFFF c

-- a quoted text as UTF-8
unfoldable pub bytes : String → List ℕ
bytes str.[] = []
bytes (str.◌∷◌ c t) = encode (code c) ++ bytes t
