-- Well-formed UTF-8 by each byte and the three before it, r, q and p in that order; no rule stands here. The law `Neighbours.utf8-sound` says that this
-- is `utf8`.
use Rattle.std.specs.Prelude.{Bool, not, ◌&&◌, ◌||◌, List, [], ◌∷◌, ℕ, leb, ltb, eqb}
use Rattle.base.specs.Choice.{when◌then◌else◌, among}
use Rattle.utf8.specs.Utf8.{continues}

-- one of the three starts a character that the next byte has to go on with
abbrev pub asks : ℕ → ℕ → ℕ → Bool
asks r q p = leb 0xC0 p || leb 0xE0 q || leb 0xF0 r

-- r or q starts a character that goes on after p
abbrev pub under_way : ℕ → ℕ → Bool
under_way r q = leb 0xE0 q || leb 0xF0 r

-- the range of a byte that goes on with a character, where p stands before it
unfoldable pub low : ℕ → ℕ
low p = when eqb p 0xE0 then 0xA0 else when eqb p 0xF0 then 0x90 else 0x80

unfoldable pub high : ℕ → ℕ
high p = when eqb p 0xED then 0x9F else when eqb p 0xF4 then 0x8F else 0xBF

-- both go on with a character
abbrev pub go_on : ℕ → ℕ → Bool
go_on p b = continues p && continues b

-- b may stand after p where no character before p goes on after it: one that starts a character after the end of one, one of a range after a first byte
abbrev pub follows : ℕ → ℕ → Bool
follows p b = when ltb p 0xC0 then not (continues b) else among 0xC2 0xF4 p && among (low p) (high p) b

-- b may stand after the three, where p may stand after those before it
unfoldable pub beside : ℕ → ℕ → ℕ → ℕ → Bool
beside r q p b = when under_way r q then go_on p b else follows p b

-- each byte of s may stand after the three before it, and the last three leave no character open
abbrev pub sound : ℕ → ℕ → ℕ → List ℕ → Bool
sound r q p [] = not (asks r q p)
sound r q p (b ∷ s) = beside r q p b && sound q p b s
