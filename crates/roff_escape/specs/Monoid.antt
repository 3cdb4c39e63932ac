-- The labelled buffer (src/buffer/manpage/monoid.rs), `escape` of the whole of it at the end (escape.rs), and its pieces escaped as they arise.
use Rattle.std.specs.Prelude.{ℕ, Bool, true, not, ◌&&◌, List, [], ◌∷◌, ◌++◌}
use Rattle.base.specs.Choice.{when◌then◌else◌}
use Rattle.base.specs.Result.{Result, gives, ◌>>=◌}
use Rattle.utf8.specs.Utf8.{bytes}
use Rattle.room.specs.Room.{extended}
use Rattle.roff_escape.specs.declared.escape.Escape.{Escape}
use Rattle.roff_escape.specs.Escape.{escape, line_start, at_newline, preamble}

-- The buffer

-- A text with its label. 'The labelled buffer' is a list of them, in the order in which they were pushed.
pub record Piece : Type 0 where
  pub mode : Escape
  pub text : List ℕ

abbrev pub piece : Escape → List ℕ → Piece
piece mode x = record { mode = mode; text = x }

-- `FreeMonoid::push_str`: one piece more at the end. '`squash` is off': it is joined to none.
unfoldable pub push_str : Escape → List ℕ → List Piece → List Piece
push_str mode x ps = ps ++ piece mode x ∷ []

-- At the end

-- 'if !at_line_start && meta == Escape::UnescapedAtNewline'
abbrev pub breaks : Escape → Bool → Bool
breaks mode start = not start && at_newline mode

-- 'out.push(b'\n')' before a piece in a mode, where a line starts or not
unfoldable pub line_end : Escape → Bool → List ℕ
line_end mode start = when breaks mode start then bytes "\n" else []

-- 'at_line_start = true': whether a line starts after that
unfoldable pub line_here : Escape → Bool → Bool
line_here mode start = when breaks mode start then true else start

-- 'for (&meta, payload) in items': the bytes of some pieces, where a line starts before them or not
unfoldable pub escape_all : Bool → List Piece → List ℕ
escape_all start [] = []
escape_all start (p ∷ ps) =
    line_end p.mode start ++ escape p.mode (line_here p.mode start) p.text
    ++ escape_all (line_start p.mode (line_here p.mode start) p.text) ps

-- and whether a line starts after them
unfoldable pub line_after : Bool → List Piece → Bool
line_after start [] = start
line_after start (p ∷ ps) = line_after (line_start p.mode (line_here p.mode start) p.text) ps

-- `Roff::render`: 'The preamble comes first', then `escape` with 'let mut at_line_start = true'
unfoldable pub rendered : List Piece → List ℕ
rendered ps = preamble ++ escape_all true ps

-- As they arise

-- The text so far (`out`), and whether a line starts there (`at_line_start`).
pub record Written : Type 0 where
  pub out : List ℕ
  pub fresh : Bool

module _ (room : ℕ) where
  -- some bytes go out, or '13 no room', and a line starts after them or not
  unfoldable pub writes : List ℕ → Bool → Written → Result Written
  writes x start w = extended room x w.out >>= λ y. gives (record { out = y; fresh = start })

  -- 'The preamble comes first', and it is no part of what `escape` reads: a line starts after it
  unfoldable pub begun : Result Written
  begun = writes preamble true (record { out = []; fresh = true })

  -- a line end before a piece in a mode
  unfoldable pub new_line : Escape → Written → Result Written
  new_line mode w = when breaks mode w.fresh then writes (bytes "\n") true w else gives w

  -- some bytes in a mode
  unfoldable pub put : Escape → List ℕ → Written → Result Written
  put mode x w = writes (escape mode w.fresh x) (line_start mode w.fresh x) w

  -- a piece: 'roff bytes are written as they arise'
  unfoldable pub push : Escape → List ℕ → Written → Result Written
  push mode x w = new_line mode w >>= put mode x

  -- some pieces in their order
  unfoldable pub pushes : List Piece → Written → Result Written
  pushes [] w = gives w
  pushes (p ∷ ps) w = push p.mode p.text w >>= pushes ps
