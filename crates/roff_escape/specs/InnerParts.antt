-- What functions here promise their callers, beyond the rules; no rule of 01 stands here.
use Rattle.std.specs.Prelude.{ℕ, ◌≤◌, ◌≡◌, Bool, true, false, not, ◌&&◌, ◌||◌, List, [], ◌∷◌, eqb, length}
use Rattle.std.specs.Borrow.{GName}
use Rattle.base.specs.Bytes.{part}
use Rattle.base.specs.Choice.{when◌then◌else◌}
use Rattle.utf8.specs.Utf8.{bytes}
use Rattle.room.specs.Lent.{Lent, text_of, with_bytes}
use Rattle.roff_escape.specs.declared.escape.Escape.{Escape}
use Rattle.roff_escape.specs.declared.roff.Roff.{Roff}
use Rattle.roff_escape.specs.Escape.{unescaped_at_newline, spaces, special, special_no_newline, unescaped, escape, line_start, preamble}
use Rattle.roff_escape.specs.Monoid.{Piece, piece, line_end, line_here, escape_all, line_after}

-- the mode of text, where line ends are stripped from it or not
abbrev pub text_mode : Bool → Escape
text_mode strip = when strip then special_no_newline else special

-- the modes in which every byte stays as it is
abbrev pub as_it_is : Escape → Bool
as_it_is unescaped_at_newline = true
as_it_is spaces = false
as_it_is special = false
as_it_is special_no_newline = false
as_it_is unescaped = true

-- a byte that text leaves as it is anywhere but at the start of a line
unfoldable pub plain : ℕ → Bool
plain c = not (eqb c 0x0A || eqb c 0x27 || eqb c 0x2D || eqb c 0x5C)

-- bytes that are all plain
unfoldable pub all_plain : List ℕ → Bool
all_plain [] = true
all_plain (c ∷ x) = plain c && all_plain x

-- What was written: a text in a lent room, and whether a line starts after it.
pub record Laid : Type 0 where
  pub text : Lent
  pub fresh : Bool

abbrev pub laid : Lent → Bool → Laid
laid t start = record { text = t; fresh = start }

-- some bytes in a mode went out
abbrev pub escaped : Escape → List ℕ → Laid → Laid
escaped mode x p = laid (with_bytes (escape mode p.fresh x) p.text) (line_start mode p.fresh x)

-- some pieces went out
abbrev pub with_pieces : List Piece → Laid → Laid
with_pieces ps p = laid (with_bytes (escape_all p.fresh ps) p.text) (line_after p.fresh ps)

-- What a `Roff` holds: which loan of a text, what was written, and whether line ends are stripped from text from here on.
pub record Composed : Type 0 where
  pub loan : GName
  pub payload : Laid
  pub strip : Bool

abbrev pub composed : GName → Laid → Bool → Composed
composed n p strip = record { loan = n; payload = p; strip = strip }

abbrev pub roff_of : Roff → Composed
roff_of m = composed m.text.ghost_name (laid (text_of m.text.now) m.fresh) m.strip

-- the preamble was written to a text
abbrev pub begun : GName → Lent → Composed
begun n t = composed n (laid (with_bytes preamble t) true) false

-- some bytes in a mode went out
abbrev pub with_escaped : Escape → List ℕ → Composed → Composed
with_escaped mode x m = composed m.loan (escaped mode x m.payload) m.strip

-- a line end went out before a piece in a mode, where it asks for one
abbrev pub with_line : Escape → Composed → Composed
with_line mode m =
    let p = m.payload in
    composed m.loan (laid (with_bytes (line_end mode p.fresh) p.text) (line_here mode p.fresh)) m.strip

-- some pieces were pushed
abbrev pub pushed : List Piece → Composed → Composed
pushed ps m = composed m.loan (with_pieces ps m.payload) m.strip

-- line ends are stripped from here on, or not
abbrev pub stripped : Bool → Composed → Composed
stripped x m = composed m.loan m.payload x

-- The bytes of x from `at` up to `to`, all plain, went out after a text.
pub record Copies (x : List ℕ) (at : ℕ) (old new : Lent) (to : ℕ) : Type 0 where
  pub order : at ≤ to
  pub within : at ≤ length x → to ≤ length x
  pub copied : new ≡ with_bytes (part x at to) old
  pub plains : all_plain (part x at to) ≡ true

-- what a control line begins with
unfoldable pub control_name : List ℕ → List Piece
control_name name = piece unescaped_at_newline (bytes ".") ∷ piece unescaped name ∷ []
