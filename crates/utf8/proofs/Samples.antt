-- Worked examples, each computed. Assumes nothing.
use Rattle.utf8.proofs.Names.{◌≡◌, refl, true, false, [], ◌∷◌, when◌then◌else◌, Some, None, table, row_of, utf8, decode, encode, bytes, size_of}
use Rattle.utf8.proofs.Names.{character_at, characters}

-- characters of one to four bytes
four_bytes : bytes "aé漢😀" ≡ 0x61 ∷ 0xC3 ∷ 0xA9 ∷ 0xE6 ∷ 0xBC ∷ 0xA2 ∷ 0xF0 ∷ 0x9F ∷ 0x98 ∷ 0x80 ∷ []
unfolding bytes encode when◌then◌else◌
four_bytes = refl

four_valid : utf8 (bytes "aé漢😀") ≡ true
unfolding bytes encode table row_of when◌then◌else◌
four_valid = refl

four_points : decode (bytes "aé漢😀") ≡ 0x61 ∷ 0xE9 ∷ 0x6F22 ∷ 0x1F600 ∷ []
unfolding bytes encode table row_of when◌then◌else◌
four_points = refl

four_count : characters (bytes "aé漢😀") ≡ 4
unfolding bytes encode when◌then◌else◌
four_count = refl

-- the surrogate U+D800, the line end in two bytes, a code point past U+10FFFF, and a character cut short
surrogate : utf8 (0xED ∷ 0xA0 ∷ 0x80 ∷ []) ≡ false
unfolding table row_of when◌then◌else◌
surrogate = refl

overlong : utf8 (0xC0 ∷ 0x8A ∷ []) ≡ false
unfolding table row_of when◌then◌else◌
overlong = refl

too_far : utf8 (0xF4 ∷ 0x90 ∷ 0x80 ∷ 0x80 ∷ []) ≡ false
unfolding table row_of when◌then◌else◌
too_far = refl

cut_short : utf8 (0xC3 ∷ []) ≡ false
unfolding table row_of when◌then◌else◌
cut_short = refl

-- a character is read where its first byte stands, and nowhere else
read_at : character_at (bytes "aé漢😀") 3 ≡ Some (0x6F22, 6)
unfolding bytes encode table row_of size_of character_at when◌then◌else◌
read_at = refl

read-inside : character_at (bytes "aé漢😀") 4 ≡ None
unfolding bytes encode table row_of size_of character_at when◌then◌else◌
read-inside = refl

read_past : character_at (bytes "aé漢😀") 10 ≡ None
unfolding bytes encode table row_of size_of character_at when◌then◌else◌
read_past = refl
