-- 'the notes without the markers and paired backticks' (02, point 11), read off the notes' bytes in one pass, without lines, parts or
-- records.
use Rattle.std.specs.Prelude.{ℕ, zero, suc, Bool, true, false, not, ◌&&◌, ◌||◌, List, [], ◌∷◌, eqb}
use Rattle.base.specs.Choice.{when◌then◌else◌}
use Rattle.base.specs.Bytes.{starts_with}
use Rattle.notes_rules.specs.Notes.{header_mark, item_mark, ticked}

-- a line that starts here has a marker
unfoldable pub marked : List ℕ → Bool
marked s = starts_with header_mark s || starts_with item_mark s

-- it is empty or all spaces
unfoldable pub blank_line : List ℕ → Bool
blank_line [] = true
blank_line (b ∷ s) = eqb b 0x0A || eqb b 0x20 && blank_line s

-- it is neither
unfoldable pub ordinary : List ℕ → Bool
ordinary s = not (marked s || blank_line s)

-- what is left here of a text: a line with a marker holds one line of it; any other text goes on over a line feed where an ordinary
-- line follows
unfoldable pub text_left : Bool → List ℕ → List ℕ
text_left one [] = []
text_left one (b ∷ s) = when eqb b 0x0A && (one || not (ordinary s)) then [] else b ∷ text_left one s

-- the bytes of a marker
unfoldable pub marker_size : List ℕ → ℕ
marker_size s = when marked s then 2 else 0

-- the notes from here on: so many bytes of a marker are passed over; the line has a marker or not; a pair of backticks is open or not. A
-- backtick is one of a pair if a pair is open, or if another one follows in what is left of its text.
unfoldable pub without_from : ℕ → Bool → Bool → List ℕ → List ℕ
without_from pass one within [] = []
without_from (suc pass) one within (b ∷ s) = without_from pass one within s
without_from zero one within (b ∷ s) =
    when eqb b 0x0A then b ∷ without_from (marker_size s) (marked s) within s else
    when eqb b 0x60 && (within || ticked (text_left one s)) then without_from 0 one (not within) s else b ∷ without_from 0 one within s

unfoldable pub without : List ℕ → List ℕ
without s = without_from (marker_size s) (marked s) false s
