-- Upper case by the Unicode Character Database (02, point 6), as `str::to_uppercase` has it.
use Rattle.std.specs.Prelude.{Bool, true, ◌&&◌, List, [], ◌∷◌, ◌++◌, map, ℕ, ◌-◌, ltb, eqb, length}
use Rattle.base.specs.Choice.{when◌then◌else◌, among}
use Rattle.utf8.specs.Utf8.{decode, encode_all, scalar}
use Rattle.upper.specs.Table.{Entry, ◌becomes◌, table}

-- the two sides of an entry
abbrev pub from : Entry → ℕ
from (c becomes cs) = c

abbrev pub to : Entry → List ℕ
to (c becomes cs) = cs

-- what a character is by a table: its entry, and 'a character without an entry maps to itself'
abbrev pub entry_of : List Entry → ℕ → List ℕ
entry_of [] c = c ∷ []
entry_of (e ∷ es) c = when eqb (from e) c then to e else entry_of es c

-- 'the whole upper-case mapping'
unfoldable pub maps_to : ℕ → List ℕ
maps_to c = entry_of table c

-- characters, each mapped: 'Some grow: ß becomes SS'
abbrev pub map_all : List ℕ → List ℕ
map_all [] = []
map_all (c ∷ cs) = maps_to c ++ map_all cs

-- a text in upper case: its characters are decoded, mapped, and encoded again
unfoldable pub upper : List ℕ → List ℕ
upper s = encode_all (map_all (decode s))

-- each number is below the next, so that none stands twice
abbrev pub under : ℕ → List ℕ → Bool
under x [] = true
under x (y ∷ ys) = ltb x y

abbrev pub ascending : List ℕ → Bool
ascending [] = true
ascending (x ∷ xs) = under x xs && ascending xs

-- entries that each map a Unicode scalar value to one to three of these
abbrev pub scalars : List ℕ → Bool
scalars [] = true
scalars (c ∷ cs) = scalar c && scalars cs

abbrev pub proper : List Entry → Bool
proper [] = true
proper (e ∷ es) = scalar (from e) && scalars (to e) && among 1 3 (length (to e)) && proper es

-- 'The upper-case table lists each mapped character once, ascending'; the law `whole` says so of `table`, in one test
abbrev pub in_order : List Entry → Bool
in_order es = ascending (map from es) && proper es

-- 01's 'ASCII upper-cased', of which this takes the place: the law `ascii_upper_lem` says that ASCII text is what it was
unfoldable pub ascii_upper : ℕ → ℕ
ascii_upper c = when among 0x61 0x7A c then c - 32 else c
