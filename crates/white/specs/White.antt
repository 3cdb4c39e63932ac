-- White_Space, what prints, and trimming the end of a text.
use Rattle.std.specs.Prelude.{Bool, true, false, ◌&&◌, ◌||◌, List, [], ◌∷◌, ℕ, eqb, length}
use Rattle.base.specs.Choice.{when◌then◌else◌}
use Rattle.utf8.specs.Utf8.{utf8, decode}

-- the code points with the property White_Space (PropList.txt of the Unicode Character Database)
unfoldable pub whites : List ℕ
whites =
    0x0009 ∷ 0x000A ∷ 0x000B ∷ 0x000C ∷ 0x000D ∷ 0x0020 ∷ 0x0085 ∷ 0x00A0 ∷ 0x1680
    ∷ 0x2000 ∷ 0x2001 ∷ 0x2002 ∷ 0x2003 ∷ 0x2004 ∷ 0x2005 ∷ 0x2006 ∷ 0x2007 ∷ 0x2008 ∷ 0x2009 ∷ 0x200A
    ∷ 0x2028 ∷ 0x2029 ∷ 0x202F ∷ 0x205F ∷ 0x3000 ∷ []

abbrev pub any : {A : Type 0} → (A → Bool) → List A → Bool
any f [] = false
any f (x ∷ xs) = f x || any f xs

unfoldable pub white : ℕ → Bool
white c = any (eqb c) whites

-- 01: 'A printing character is one outside White_Space.'
abbrev pub unblank : List ℕ → List ℕ
unblank [] = []
unblank (c ∷ cs) = when white c then unblank cs else c ∷ unblank cs

-- the printing characters of a text, in order
unfoldable pub printing : List ℕ → List ℕ
printing s = unblank (decode s)

-- how many they are; of what is not UTF-8 none are counted
unfoldable pub printing_count : List ℕ → ℕ
printing_count s = when utf8 s then length (printing s) else 0

abbrev pub all_white : List ℕ → Bool
all_white [] = true
all_white (c ∷ cs) = white c && all_white cs

-- the bytes are characters of White_Space, any number of them
unfoldable pub blank : List ℕ → Bool
blank s = utf8 s && all_white (decode s)

-- the bytes before the White_Space at the end
unfoldable pub trim : List ℕ → List ℕ
trim [] = []
trim (b ∷ s) = when blank (b ∷ s) then [] else b ∷ trim s
