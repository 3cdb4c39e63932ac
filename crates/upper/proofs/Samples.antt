-- Worked examples, each computed. Assumes nothing.
use Rattle.upper.proofs.Names.{◌≡◌, refl, [], ◌∷◌, length, when◌then◌else◌, row_of, encode, bytes, table as entries, maps_to, upper}
use Rattle.utf8.specs.Utf8.{table}

size : length entries ≡ 1580
unfolding entries
size = refl

-- 02: 'ß becomes SS'
sharp_s : upper (bytes "Straße") ≡ bytes "STRASSE"
unfolding entries maps_to upper bytes encode table row_of when◌then◌else◌
sharp_s = refl

french : upper (bytes "Été à Noël") ≡ bytes "ÉTÉ À NOËL"
unfolding entries maps_to upper bytes encode table row_of when◌then◌else◌
french = refl

-- one character of two bytes that becomes three, of six bytes
three : maps_to 0x0390 ≡ 0x0399 ∷ 0x0308 ∷ 0x0301 ∷ []
unfolding entries maps_to when◌then◌else◌
three = refl

-- the last entry, and a character without one
last : maps_to 0x1E943 ≡ 0x1E921 ∷ []
unfolding entries maps_to when◌then◌else◌
last = refl

snowman : upper (bytes "☃") ≡ bytes "☃"
unfolding entries maps_to upper bytes encode table row_of when◌then◌else◌
snowman = refl
