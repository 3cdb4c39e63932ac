-- A text in a lent room (`room::Text`), as contracts speak of it. `◌≡◌` between two of them says all three of: it is the same room, it is as long, and
-- the same text stands there, or both were refused by 13. A room's bytes past the text are in none of it.
use Rattle.std.specs.Prelude.{ℕ, Bool, true, false, List, [], ◌∷◌, length}
use Rattle.std.specs.Borrow.{GName}
use Rattle.base.specs.Result.{Result, gives, refused, ◌>>=◌}
use Rattle.room.specs.Room.{seen, extended}
use Rattle.room.specs.declared.Text.{Text}

pub record Lent : Type 0 where
  -- Each loan of a room, `&mut [u8]` in the code, has a name of its own. Two with one name are the same loan: a function that writes and leaves the name
  -- as it was has written into the room that it was given, and the room's owner finds the text there when the loan ends.
  pub name : GName
  -- how many bytes the room has
  pub size : ℕ
  -- the text so far, or 13 where it was once longer than the room
  pub shown : Result (List ℕ)

-- what is seen of a loan with this name, of a room with these bytes, by a length
abbrev pub lent : GName → List ℕ → ℕ → Lent
lent n room len = record { name = n; size = length room; shown = seen room len }

-- what is seen of the code's value: `t.room.now` is the room's bytes
abbrev pub text_of : Text → Lent
text_of t = lent t.room.ghost_name t.room.now t.len

-- a room with nothing written
abbrev pub lent_empty : GName → ℕ → Lent
lent_empty n size = record { name = n; size = size; shown = gives [] }

-- a rule for the text, by the room's size and what stood there; a refusal stays, and so do the room and its size
abbrev pub wrote : (ℕ → List ℕ → Result (List ℕ)) → Lent → Lent
wrote rule t = record t { shown = t.shown >>= rule t.size }

-- some bytes more
abbrev pub with_bytes : List ℕ → Lent → Lent
with_bytes x t = wrote (λ n. extended n x) t

abbrev pub is_empty : List ℕ → Bool
is_empty [] = true
is_empty (x ∷ xs) = false

-- a text stands there, and no refusal: `Unit` holds, and `⊥` never does
abbrev pub Given : Result (List ℕ) → Type 0
Given (gives o) = Unit {0}
Given (refused n p) = ⊥
