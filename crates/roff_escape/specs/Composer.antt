-- Roff document composer (src/buffer/manpage/roff.rs): the pieces that each of its functions pushes.
use Rattle.std.specs.Prelude.{ℕ, Bool, List, [], ◌∷◌}
use Rattle.base.specs.Choice.{when◌then◌else◌}
use Rattle.utf8.specs.Utf8.{bytes}
use Rattle.roff_escape.specs.declared.roff.Font.{Font}
use Rattle.roff_escape.specs.declared.roff.Font.TheVariants as font
use Rattle.roff_escape.specs.Escape.{unescaped_at_newline, spaces, special, special_no_newline, unescaped}
use Rattle.roff_escape.specs.Monoid.{Piece, piece}

-- `Font::escape`
unfoldable pub font_escape : Font → List ℕ
font_escape font.Roman = bytes "\\fR"
font_escape font.Bold = bytes "\\fB"
font_escape font.Italic = bytes "\\fI"

-- 'an empty one as `""`': the argument of a control line
unfoldable pub argument : List ℕ → List ℕ
argument [] = bytes "\"\""
argument (c ∷ x) = c ∷ x

-- `Roff::roff_linebreak`
unfoldable pub linebreak : List Piece
linebreak = piece unescaped_at_newline [] ∷ []

-- `Roff::control0`: a control line
unfoldable pub control0 : List ℕ → List Piece
control0 name = piece unescaped_at_newline (bytes ".") ∷ piece unescaped name ∷ piece unescaped_at_newline [] ∷ []

-- `Roff::control`: a control line with one argument
unfoldable pub control : List ℕ → List ℕ → List Piece
control name arg =
    piece unescaped_at_newline (bytes ".")
    ∷ piece unescaped name
    ∷ piece unescaped (bytes " ")
    ∷ piece spaces (argument arg)
    ∷ piece unescaped_at_newline []
    ∷ []

-- `Roff::plaintext`, where line ends are stripped from text (`strip_newlines`) or not
unfoldable pub plaintext : Bool → List ℕ → Piece
plaintext strip x = piece (when strip then special_no_newline else special) x

-- `Roff::text` of one text: its font, the text, RESTORE_FONT
unfoldable pub text : Bool → Font → List ℕ → List Piece
text strip f x = piece unescaped (font_escape f) ∷ plaintext strip x ∷ piece unescaped (bytes "\\fP") ∷ []
