-- A lent room with a length (01, 'What must change shape': '`String` output: a lent room and a length').
use Rattle.std.specs.Prelude.{ℕ, ◌-◌, List, ◌++◌, leb, length, take, replicate}
use Rattle.base.specs.Choice.{when◌then◌else◌}
use Rattle.base.specs.Result.{Result, gives, refused}

-- '13 means that the text, at some moment of being written .., is longer than the room': a text with some bytes more
unfoldable pub extended : ℕ → List ℕ → List ℕ → Result (List ℕ)
extended room x out = when leb (length (out ++ x)) room then gives (out ++ x) else refused 13 0

-- the text that stands in a room up to a length; a length past the room says that it was refused by 13
unfoldable pub seen : List ℕ → ℕ → Result (List ℕ)
seen room len = when leb len (length room) then gives (take len room) else refused 13 0

-- 'a room is 0 beyond what was written'
unfoldable pub padded : ℕ → List ℕ → List ℕ
padded room x = x ++ replicate (room - length x) 0
