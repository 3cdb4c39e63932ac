-- Samples of White_Space, by computation. Assumes nothing.
use Rattle.white.proofs.Names.{◌≡◌, refl, [], ◌∷◌, length, when◌then◌else◌, table, row_of, decode, encode, bytes, whites, white, printing, printing_count}
use Rattle.white.proofs.Names.{blank, trim}

-- U+00A0 is White_Space, U+200B is not
trimmed : trim (bytes "a\u{a0} ") ≡ bytes "a"
unfolding bytes encode table row_of whites white blank trim when◌then◌else◌
trimmed = refl

kept : length (trim (bytes "a \u{200b}")) ≡ 5
unfolding bytes encode table row_of whites white blank trim when◌then◌else◌
kept = refl

prints : printing (bytes "a é\u{3000}漢\n") ≡ decode (bytes "aé漢")
unfolding bytes encode table row_of whites white printing when◌then◌else◌
prints = refl

prints-none : printing_count (0x61 ∷ 0xC3 ∷ []) ≡ 0
unfolding table row_of printing_count when◌then◌else◌
prints-none = refl
