-- The next chunk of a body as the C interface hands it out: numbers for what it is, where it begins, its length and its width, and the cursor
-- after it.
use Rattle.std.specs.Prelude.{ℕ, ◌-◌, min, List, [], ◌∷◌, eqb, length, drop, Option, Some, None}
use Rattle.base.specs.Bytes.{starts_with}
use Rattle.base.specs.Choice.{when◌then◌else◌}
use Rattle.splitter.specs.Answers.{cursor, first_chunk}
use Rattle.splitter.specs.declared.Code.{Code}
use Rattle.splitter.specs.declared.Code.TheVariants as code
use Rattle.splitter.specs.declared.Cursor.{Cursor}
use Rattle.splitter.specs.declared.Piece.{Piece}
use Rattle.splitter.specs.declared.Piece.TheVariants.{Raw, Space, Paragraph, LineBreak}
use Rattle.next_chunk.specs.declared.Next.{Next}

-- '0 outside ticks, 1 before the first line in ticks, any other number after it'
unfoldable pub code_of : ℕ → Code
code_of n = when eqb n 0 then code.No else when eqb n 1 then code.First else code.Rest

-- '2 where it is given back'
abbrev pub ticks_of : Code → ℕ
ticks_of code.No = 0
ticks_of code.First = 1
ticks_of code.Rest = 2

-- the chunk of one space is '1 for a part of the body', or '4 for the space that stands for a line end': the byte where it begins tells
unfoldable pub space_number : List ℕ → ℕ → ℕ
space_number body at = when starts_with (0x20 ∷ []) (drop at body) then 1 else 4

-- where the next chunk is looked for; after a last line in ticks without `\n` that is the body's end
abbrev pub after : List ℕ → Cursor → ℕ
after body c = min c.at (length body)

-- '1 for a part of the body .., 2 for a paragraph, 3 for a line break (both with length and width 0), 4 for the space that stands for a line
-- end (.. at the `\n`, length 1, width 1)', with the cursor after it
abbrev pub handed : List ℕ → Piece → Cursor → Next
handed body (Raw from to w) c = record { number = 1; at = after body c; ticks = ticks_of c.code; start = from; length = to - from; width = w }
handed body (Space at) c = record { number = space_number body at; at = after body c; ticks = ticks_of c.code; start = at; length = 1; width = 1 }
handed body (Paragraph at) c = record { number = 2; at = after body c; ticks = ticks_of c.code; start = at; length = 0; width = 0 }
handed body (LineBreak at) c = record { number = 3; at = after body c; ticks = ticks_of c.code; start = at; length = 0; width = 0 }

-- 'With no further chunk the cursor stays as it was given and the other three are 0'
abbrev pub handed_or : List ℕ → ℕ → ℕ → Option (Piece × Cursor) → Next
handed_or body at ticks (Some x) = handed body x.0 x.1
handed_or body at ticks None = record { number = 0; at = at; ticks = ticks; start = 0; length = 0; width = 0 }

-- the chunk of a body at a cursor, of its bytes from `at` on
unfoldable pub next_chunk : List ℕ → ℕ → ℕ → Next
next_chunk body at ticks = handed_or body at ticks (first_chunk body (cursor at (code_of ticks)))
