-- Reading roff back (02, point 8: 'Write the reading back as rules of its own'): the text that bytes of a man page tell. It goes from the left,
-- byte by byte, so that `\\fP` tells the text `\fP`, in which a search would find a font mark.
use Rattle.std.specs.Prelude.{ℕ, Bool, true, false, ◌&&◌, ◌||◌, List, [], ◌∷◌, map, eqb}
use Rattle.base.specs.Choice.{when◌then◌else◌}
use Rattle.reader.specs.Reader as reader

-- Where the reading stands.
pub data At : Type 0 where
  -- between texts: control lines, and the line ends around them
  between : At
  -- there, after `\` and after `\f`
  between_slash : At
  between_font : At
  -- in text, where a line starts or not
  in_text : (start : Bool) → At
  -- in text: in a control line; after `\`, `\f`, `\*`, `\*(` and `\*(A`
  control : At
  slash : At
  font : At
  star : At
  paren : At
  name : At

-- a line that starts with a dot or an apostrophe is a control line
unfoldable pub controls : Bool → ℕ → Bool
controls start b = start && (eqb b 0x2E || eqb b 0x27)

-- `\fR`, `\fB` and `\fI` set a font, and text follows; `\fP` sets the font before, and ends it
unfoldable pub sets : ℕ → Bool
sets b = eqb b 0x52 || eqb b 0x42 || eqb b 0x49

-- what a byte tells: in text itself; after `\` a backslash or a hyphen; the end of `\*(Aq` an apostrophe; else nothing, as in `\&`
unfoldable pub says : At → ℕ → List ℕ
says between b = []
says between_slash b = []
says between_font b = []
says (in_text start) b = when eqb b 0x5C || controls start b then [] else b ∷ []
says control b = []
says slash b = when eqb b 0x5C || eqb b 0x2D then b ∷ [] else []
says font b = []
says star b = []
says paren b = []
says name b = when eqb b 0x71 then 0x27 ∷ [] else []

-- and where the reading stands after it
unfoldable pub next : At → ℕ → At
next between b = when eqb b 0x5C then between_slash else between
next between_slash b = when eqb b 0x66 then between_font else between
next between_font b = when sets b then in_text false else between
next (in_text start) b = when eqb b 0x5C then slash else when controls start b then control else in_text (eqb b 0x0A)
next control b = when eqb b 0x0A then in_text true else control
next slash b = when eqb b 0x66 then font else when eqb b 0x2A then star else in_text false
next font b = when eqb b 0x50 then between else in_text false
next star b = when eqb b 0x28 then paren else in_text false
next paren b = when eqb b 0x41 then name else in_text false
next name b = in_text false

-- the text that an escaped body tells, where a line starts before it or not
abbrev pub body_back : Bool → List ℕ → List ℕ
body_back start x = reader.read says next (in_text start) x

-- the text that bytes tell which stand for a whole record, or for several: control lines, and text in its font
abbrev pub read_back : List ℕ → List ℕ
read_back x = reader.read says next between x

-- 'each line end is taken as a space'
unfoldable pub as_space : ℕ → ℕ
as_space c = when eqb c 0x0A then 0x20 else c

abbrev pub spaced : List ℕ → List ℕ
spaced x = map as_space x
