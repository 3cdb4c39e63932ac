-- What one text record outside headings gives (02, point 8: 'For one text record outside headings'), and the text that this tells.
use Rattle.std.specs.Prelude.{ℕ, Bool, false, List, [], ◌++◌}
use Rattle.base.specs.Choice.{when◌then◌else◌}
use Rattle.utf8.specs.Utf8.{bytes}
use Rattle.records.specs.declared.Style.{Style}
use Rattle.records.specs.declared.Style.TheVariants as style
use Rattle.roff_escape.specs.declared.escape.Escape.{Escape}
use Rattle.roff_escape.specs.declared.escape.Escape.TheVariants as mode
use Rattle.roff_escape.specs.Escape.{escape}
use Rattle.roff_escape.specs.Composer.{font_escape}
use Rattle.manpage.specs.Roff.{font_of}
use Rattle.roff_read.specs.Read.{spaced}

-- before emphasis a control line, on a line of its own
abbrev pub lead : Style → Bool → List ℕ
lead style.Text start = []
lead style.Emphasis start = (when start then [] else bytes "\n") ++ bytes ".SS\n"
lead style.Literal start = []
lead style.Metavar start = []
lead style.Invalid start = []

-- the mode of text, where line ends are stripped or not
abbrev pub mode_of : Bool → Escape
mode_of strip = when strip then mode.SpecialNoNewline else mode.Special

-- The font, the escaped body, and the font before. No line starts at the body, since its font stands before it.
unfoldable pub written : Style → (start strip : Bool) → List ℕ → List ℕ
written st start strip x = lead st start ++ font_escape (font_of st) ++ escape (mode_of strip) false x ++ bytes "\\fP"

-- what it tells: the text, or 'each line end is taken as a space'
unfoldable pub spaced_if : Bool → List ℕ → List ℕ
spaced_if strip x = when strip then spaced x else x
