-- Escaping (src/buffer/manpage/escape.rs): the bytes of a text in one of the five `Escape` modes.
use Rattle.std.specs.Prelude.{ℕ, Bool, true, false, ◌&&◌, ◌||◌, List, [], ◌∷◌, ◌++◌, eqb}
use Rattle.base.specs.Choice.{when◌then◌else◌}
use Rattle.utf8.specs.Utf8.{bytes}
use Rattle.roff_escape.specs.declared.escape.Escape.{Escape}
pub use Rattle.roff_escape.specs.declared.escape.Escape.TheVariants.{UnescapedAtNewline as unescaped_at_newline, Spaces as spaces, Special as special, SpecialNoNewline as special_no_newline, Unescaped as unescaped}

-- 'if at_line_start && (c == b'.' || c == b'\'')': what goes before a byte at the start of a line
unfoldable pub guard : Bool → ℕ → List ℕ
guard start c = when start && (eqb c 0x2E || eqb c 0x27) then bytes "\\&" else []

-- 'if c == b'\\' || c == b'-'': a backslash before these two
unfoldable pub backslash : ℕ → List ℕ
backslash c = when eqb c 0x5C || eqb c 0x2D then bytes "\\" else []

-- An apostrophe becomes APOSTROPHE, a line end the byte given for it, and any other byte stays. (`Apostrophes::Handle`: render_roff
-- asks for no other.)
unfoldable pub replaced : ℕ → ℕ → List ℕ
replaced line_end c = when eqb c 0x27 then bytes "\\*(Aq" else when eqb c 0x0A then line_end ∷ [] else c ∷ []

-- a byte of text, at the start of a line or not, and what a line end becomes
unfoldable pub special_byte : ℕ → Bool → ℕ → List ℕ
special_byte line_end start c = guard start c ++ backslash c ++ replaced line_end c

-- a space or a line end in the argument of a control line
unfoldable pub spaces_byte : ℕ → List ℕ
spaces_byte c = when eqb c 0x20 || eqb c 0x0A then bytes "\\ " else c ∷ []

-- the `match meta` of `escape`: a byte in a mode
unfoldable pub escape_byte : Escape → Bool → ℕ → List ℕ
escape_byte unescaped_at_newline start c = c ∷ []
escape_byte spaces start c = spaces_byte c
escape_byte special start c = special_byte 0x0A start c
escape_byte special_no_newline start c = special_byte 0x20 start c
escape_byte unescaped start c = c ∷ []

-- 'at_line_start = c == b'\n'': the byte after one in a mode counts as the first of a line. In SpecialNoNewline a line end sets it to false
-- as well.
abbrev pub starts_line : Escape → ℕ → Bool
starts_line unescaped_at_newline c = eqb c 0x0A
starts_line spaces c = eqb c 0x0A
starts_line special c = eqb c 0x0A
starts_line special_no_newline c = false
starts_line unescaped c = eqb c 0x0A

-- 'for &c in payload.as_bytes()': some bytes in a mode, where a line starts before them or not
unfoldable pub escape : Escape → Bool → List ℕ → List ℕ
escape mode start [] = []
escape mode start (c ∷ x) = escape_byte mode start c ++ escape mode (starts_line mode c) x

-- and whether the byte after them counts as the first of a line
unfoldable pub line_start : Escape → Bool → List ℕ → Bool
line_start mode start [] = start
line_start mode start (c ∷ x) = line_start mode (starts_line mode c) x

-- 'meta == Escape::UnescapedAtNewline': a mode that starts a line of its own
abbrev pub at_newline : Escape → Bool
at_newline unescaped_at_newline = true
at_newline spaces = false
at_newline special = false
at_newline special_no_newline = false
at_newline unescaped = false

-- APOSTROPHE_PREABMLE, which `Roff::render` puts first: 'The preamble comes first'
unfoldable pub preamble : List ℕ
preamble = bytes ".ie \\n(.g .ds Aq \\(aq\n.el .ds Aq '\n"
