-- What the step over a slice and a cursor answers, as the rules have it.
use Rattle.std.specs.Prelude.{ℕ, ◌+◌, ◌≤◌, ◌<◌, ◌&&◌, List, [], ◌∷◌, eqb, leb, length, drop, Option, Some, None}
use Rattle.base.specs.Bytes.{part}
use Rattle.base.specs.Choice.{when◌then◌else◌}
use Rattle.splitter.specs.Split.{Chunk, raw, paragraph, line_break, is_space, step, Placed, placed, chunk_ticked_code}
use Rattle.splitter.specs.Split as rules
use Rattle.splitter.specs.declared.Code.{Code}
use Rattle.splitter.specs.declared.Code.TheVariants as code
use Rattle.splitter.specs.declared.Cursor.{Cursor}
use Rattle.splitter.specs.declared.Piece.{Piece}
use Rattle.splitter.specs.declared.Piece.TheVariants.{Raw, Space, Paragraph, LineBreak}

-- the piece that a chunk is at a place of a body: 'A word or line is handed back as a part of that body'; 'the chunk of one space' is a case of
-- its own, for a space of the body and for a line end, which the byte at its place tells apart.
unfoldable pub piece_at : ℕ → Chunk → Piece
piece_at at (raw text width) = when is_space text && eqb width 1 then Space at else Raw at (at + length text) width
piece_at at paragraph = Paragraph at
piece_at at line_break = LineBreak at

abbrev pub cursor : ℕ → Code → Cursor
cursor n c = record { at = n; code = c }

-- the cursor before the first chunk
abbrev pub start : Cursor
start = cursor 0 code.No

-- a step of the rules for the bytes from a place of a body on, as an answer
unfoldable pub answer : ℕ → rules.Step → Piece × Cursor
answer at s = (piece_at (at + s.begins) s.chunk, cursor (at + s.used) s.code)

-- 'a step giving a chunk and a cursor'; 'a cursor at or past the body's end has no further chunk'
unfoldable pub first_chunk : List ℕ → Cursor → Option (Piece × Cursor)
first_chunk body c = when leb (length body) c.at then None else Some (answer c.at (step c.code (drop c.at body)))

-- the chunk that a piece of a body is
abbrev pub chunk_of : List ℕ → Piece → Chunk
chunk_of body (Raw from to width) = raw (part body from to) width
chunk_of body (Space at) = raw (0x20 ∷ []) 1
chunk_of body (Paragraph at) = paragraph
chunk_of body (LineBreak at) = line_break

-- the place in its body where a piece begins
abbrev pub place_of : Piece → ℕ
place_of (Raw from to width) = from
place_of (Space at) = at
place_of (Paragraph at) = at
place_of (LineBreak at) = at

abbrev pub placed_of : List ℕ → Piece → Placed
placed_of body p = record { place = place_of p; chunk = chunk_of body p }

-- the bytes of a piece: 'A word or line is handed back as a part of that body'; the other pieces have none there
abbrev pub piece_text : List ℕ → Piece → List ℕ
piece_text body (Raw from to width) = part body from to
piece_text body (Space at) = []
piece_text body (Paragraph at) = []
piece_text body (LineBreak at) = []

-- the chunks of a body from a cursor on
abbrev pub placed_from : List ℕ → Cursor → List Placed
placed_from body c = placed c.at c.code 0 (drop c.at body)

-- Bounds that follow from the rules, for callers to do sums with: a piece lies within the body, and its width is at most the body's length past
-- 1,000,001
abbrev pub PieceWithin : ℕ → Piece → Type 0
PieceWithin n (Raw from to width) = (from ≤ to) × (to ≤ n) × (width ≤ n + chunk_ticked_code)
PieceWithin n (Space at) = at < n
PieceWithin n (Paragraph at) = at < n
PieceWithin n (LineBreak at) = at < n

-- and the next cursor is past the last one, and at most one past the end
abbrev pub Within : List ℕ → Cursor → Option (Piece × Cursor) → Type 0
Within body c (Some x) = PieceWithin (length body) x.0 × (c.at + 1 ≤ x.1.at) × (x.1.at ≤ length body + 1)
Within body c None = length body ≤ c.at
