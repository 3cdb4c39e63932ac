-- Roff: the text of a document, in a room of some bytes (src/buffer/manpage.rs).
use Rattle.std.specs.Prelude.{ℕ, Bool, true, false, List, [], ◌++◌}
use Rattle.base.specs.Choice.{when◌then◌else◌}
use Rattle.base.specs.Result.{Result, gives, refused, ◌>>=◌}
use Rattle.utf8.specs.Utf8.{bytes}
use Rattle.upper.specs.Upper.{upper}
use Rattle.records.specs.Records.{tokens, Token}
use Rattle.records.specs.declared.Style.{Style}
use Rattle.records.specs.declared.Style.TheVariants as style
use Rattle.records.specs.declared.Block.{Block}
use Rattle.records.specs.declared.Block.TheVariants as block
use Rattle.records.specs.declared.Kind.{Kind}
use Rattle.records.specs.declared.Kind.TheVariants as kind
use Rattle.document.specs.Document.{check}
use Rattle.renderer.specs.Walk.{Turn, walk}
use Rattle.roff_escape.specs.declared.roff.Font.{Font}
use Rattle.roff_escape.specs.declared.roff.Font.TheVariants as font
use Rattle.roff_escape.specs.Monoid.{Piece, Written, begun, pushes}
use Rattle.roff_escape.specs.Composer.{linebreak, control0, control, text}

-- `From<Style> for Font`
abbrev pub font_of : Style → Font
font_of style.Text = font.Roman
font_of style.Emphasis = font.Bold
font_of style.Literal = font.Bold
font_of style.Metavar = font.Italic
font_of style.Invalid = font.Italic

-- What `render_roff` keeps beside the text: whether line ends are stripped from text (`strip_newlines`), the captured text (`capture.0`), and
-- whether text is captured (`capture.1`).
pub record Locals : Type 0 where
  pub strip : Bool
  pub kept : List ℕ
  pub capture : Bool

-- `Roff::new()`, and 'let mut capture = (String::new(), false)'
abbrev pub initial : Locals
initial = record { strip = false; kept = []; capture = false }

abbrev pub with_strip : Bool → Locals → Locals
with_strip x l = record { strip = x; kept = l.kept; capture = l.capture }

abbrev pub with_kept : List ℕ → Locals → Locals
with_kept x l = record { strip = l.strip; kept = x; capture = l.capture }

abbrev pub with_capture : Bool → Locals → Locals
with_capture x l = record { strip = l.strip; kept = l.kept; capture = x }

-- What a token does: the pieces that it pushes, and the locals after it.
pub record Outcome : Type 0 where
  pub pushed : List Piece
  pub after : Locals

abbrev pub pushing : List Piece → Locals → Result Outcome
pushing ps l = gives (record { pushed = ps; after = l })

-- Headings

-- 'Headings are captured': the text of a record
unfoldable pub captures : List ℕ → Locals → Result Outcome
captures x l = pushing [] (with_kept (l.kept ++ x) l)

-- 'written at their end' in upper case, by the whole mapping of 02, point 6; which ends all capture: 'An inner heading's end also ends
-- capture for the outer'
unfoldable pub heading : List ℕ → Locals → Result Outcome
heading name l = pushing (control name (upper l.kept)) (with_kept [] (with_capture false l))

-- Tokens

-- 'if style == Style::Emphasis': a control line before it
unfoldable pub subsection : Style → List Piece
subsection style.Text = []
subsection style.Emphasis = control0 (bytes "SS")
subsection style.Literal = []
subsection style.Metavar = []
subsection style.Invalid = []

-- `Token::BlockStart` of the block at place p; 11, 'TermRef in roff'
unfoldable pub started : ℕ → Block → Locals → Result Outcome
started p block.Header l = pushing [] (with_capture true l)
started p block.Section2 l = pushing [] (with_capture true l)
started p block.Section3 l = pushing [] (with_capture true l)
started p block.Section4 l = pushing [] (with_capture true l)
started p block.ItemTerm l = pushing (control0 (bytes "TP")) (with_strip true l)
started p block.ItemBody l = pushing [] l
started p block.DefinitionList l = pushing [] l
started p block.Block l = pushing (control0 (bytes "PP")) l
started p block.InlineBlock l = pushing [] l
started p block.TermRef l = refused 11 p
started p block.Meta l = pushing (control0 (bytes "nf")) l
started p block.Mono l = pushing [] l

-- `Token::BlockEnd`
unfoldable pub ended : ℕ → Block → Locals → Result Outcome
ended p block.Header l = heading (bytes "SH") l
ended p block.Section2 l = heading (bytes "SS") l
ended p block.Section3 l = heading (bytes "SS") l
ended p block.Section4 l = heading (bytes "SS") l
ended p block.ItemTerm l = pushing linebreak (with_strip false l)
ended p block.ItemBody l = pushing (control0 (bytes "PP")) (with_strip false l)
ended p block.DefinitionList l = pushing [] l
ended p block.Block l = pushing [] l
ended p block.InlineBlock l = pushing [] l
ended p block.TermRef l = refused 11 p
ended p block.Meta l = pushing (control0 (bytes "fi")) l
ended p block.Mono l = pushing [] l

-- `match token`: text is captured, or pushed in its font
unfoldable pub token : ℕ → Kind → List ℕ → Locals → Result Outcome
token p (kind.Text st) x l = when l.capture then captures x l else pushing (subsection st ++ text l.strip (font_of st) x) l
token p (kind.Start b) x l = started p b l
token p (kind.End b) x l = ended p b l
token p kind.Unknown x l = pushing [] l

-- The page

-- The text so far, whether a line starts there, and the locals.
pub record State : Type 0 where
  pub written : Written
  pub locals : Locals

abbrev pub state : Locals → Written → State
state l w = record { written = w; locals = l }

module _ (room : ℕ) where
  -- a token, whose pieces are 'written as they arise'
  unfoldable pub turn : Turn State
  turn p q k x ts s = token p k x s.locals >>= λ o. pushes room o.pushed s.written >>= λ w. gives (state o.after w)

  -- `Doc::render_roff` given `Roff::new()` of some records, whatever form they are stored in: the preamble, then the walk
  abbrev pub roff_on : List Token → Result (List ℕ)
  roff_on ts = begun room >>= (λ w. walk turn ts (state initial w)) >>= λ s. gives s.written.out

  -- of a document: refusals 1 to 8 come first
  unfoldable pub roff : List ℕ → Result (List ℕ)
  roff s = check s >>= λ _. roff_on (tokens 0 0 s)
