-- The writers' notes (02, point 11): lines, the parts that they make, the stretches of a part's text, and the stored document.
use Rattle.std.specs.Prelude.{ℕ, Bool, true, false, not, ◌&&◌, ◌||◌, List, [], ◌∷◌, ◌++◌, leb, eqb, length, drop}
use Rattle.std.specs.Bool.{beq}
use Rattle.base.specs.Choice.{when◌then◌else◌}
use Rattle.base.specs.Bytes.{starts_with}
use Rattle.base.specs.Result.{Result, gives, refused, ◌>>=◌}
use Rattle.utf8.specs.Utf8.{utf8}
use Rattle.records.specs.Stored.{text, around}
use Rattle.records.specs.declared.Style.{Style}
use Rattle.records.specs.declared.Style.TheVariants as style
use Rattle.records.specs.declared.Block.TheVariants as block
use Rattle.document.specs.Document.{short, max_bytes}

-- Lines

-- some lines with one byte more at the start of the first
abbrev pub starting : ℕ → List (List ℕ) → List (List ℕ)
starting b [] = (b ∷ []) ∷ []
starting b (l ∷ ls) = (b ∷ l) ∷ ls

-- 'notes .. with line feeds': a line ends at a line feed; what stands after the last one is a line if it is not empty
unfoldable pub lines : List ℕ → List (List ℕ)
lines [] = []
lines (b ∷ s) = when eqb b 0x0A then [] ∷ lines s else starting b (lines s)

-- What a line is, with the text that it holds.
pub data Line : Type 0 where
  header item other : List ℕ → Line
  separator : Line

-- '# ', '- '
abbrev pub header_mark : List ℕ
header_mark = 0x23 ∷ 0x20 ∷ []

abbrev pub item_mark : List ℕ
item_mark = 0x2D ∷ 0x20 ∷ []

-- 'empty or all spaces'
unfoldable pub spaces : List ℕ → Bool
spaces [] = true
spaces (b ∷ l) = eqb b 0x20 && spaces l

-- 'A line starting `# ` becomes a Header, one starting `- ` an ItemBody, each holding the rest of the line. A line that is empty or all
-- spaces separates.'
unfoldable pub line_of : List ℕ → Line
line_of l =
    when starts_with header_mark l then header (drop 2 l) else
    when starts_with item_mark l then item (drop 2 l) else
    when spaces l then separator else other l

-- The parts: lines, where other neighbouring lines are one

-- 'Other neighbouring lines, joined by line feeds': such a line before what follows it
abbrev pub before : List ℕ → List Line → List Line
before x [] = other x ∷ []
before x (other y ∷ ls) = other (x ++ 0x0A ∷ y) ∷ ls
before x (header y ∷ ls) = other x ∷ header y ∷ ls
before x (item y ∷ ls) = other x ∷ item y ∷ ls
before x (separator ∷ ls) = other x ∷ separator ∷ ls

-- any line before what follows it
abbrev pub join : Line → List Line → List Line
join (other x) ls = before x ls
join (header x) ls = header x ∷ ls
join (item x) ls = item x ∷ ls
join separator ls = separator ∷ ls

unfoldable pub joined : List (List ℕ) → List Line
joined [] = []
joined (l ∷ ls) = join (line_of l) (joined ls)

-- The stretches of a text

-- A byte, and whether it stands between a pair of backticks.
pub record Styled : Type 0 where
  pub literal : Bool
  pub byte : ℕ

abbrev pub styled_as : Bool → ℕ → Styled
styled_as l b = record { literal = l; byte = b }

-- a backtick stands in some bytes
unfoldable pub ticked : List ℕ → Bool
ticked [] = false
ticked (b ∷ s) = eqb b 0x60 || ticked s

-- 'backticks pair from the left; what stands between a pair is Literal, the rest Text .. and an unpaired last backtick is Text': a backtick
-- is one of a pair if a pair is open, which it then closes, or if another one follows, which then closes it
unfoldable pub styled : Bool → List ℕ → List Styled
styled within [] = []
styled within (b ∷ s) = when eqb b 0x60 && (within || ticked s) then styled (not within) s else styled_as within b ∷ styled within s

-- A stretch: bytes of one style.
pub record Stretch : Type 0 where
  pub literal : Bool
  pub body : List ℕ

abbrev pub stretch : Bool → List ℕ → Stretch
stretch l x = record { literal = l; body = x }

-- some stretches with one byte more before them: it begins the first one if it has that style, else one of its own
abbrev pub grown : Styled → List Stretch → List Stretch
grown m [] = stretch m.literal (m.byte ∷ []) ∷ []
grown m (x ∷ xs) =
    when beq m.literal x.literal then stretch m.literal (m.byte ∷ x.body) ∷ xs else stretch m.literal (m.byte ∷ []) ∷ x ∷ xs

-- 'empty stretches give no record, neighbours of one style make one record' (`Apart` in specs/Laws.antt says it once more)
unfoldable pub stretches : List Styled → List Stretch
stretches [] = []
stretches (m ∷ ms) = grown m (stretches ms)

-- The document

-- 'what stands between a pair is Literal, the rest Text'
abbrev pub style_of : Bool → Style
style_of true = style.Literal
style_of false = style.Text

-- a record for each stretch
unfoldable pub records : List Stretch → List ℕ
records [] = []
records (x ∷ xs) = text (style_of x.literal) x.body ++ records xs

-- 'Within each such text backticks pair from the left': the records of a part's text, in which no pair is open at first
unfoldable pub text_records : List ℕ → List ℕ
text_records x = records (stretches (styled false x))

-- 'becomes a Header', 'an ItemBody', 'one Block'; a line that separates becomes nothing
abbrev pub part_of : Line → List ℕ
part_of (header x) = around block.Header (text_records x)
part_of (item x) = around block.ItemBody (text_records x)
part_of (other x) = around block.Block (text_records x)
part_of separator = []

unfoldable pub parts : List Line → List ℕ
parts [] = []
parts (l ∷ ls) = part_of l ++ parts ls

-- the document that some notes stand for
unfoldable pub document : List ℕ → List ℕ
document s = parts (joined (lines s))

-- '13, also past 32,768 bytes'
unfoldable pub fit : ℕ → List ℕ → Result (List ℕ)
fit room x = when leb (length x) room && leb (length x) max_bytes then gives x else refused 13 0

-- '1 when the notes are too long comes first, then 19 when they are not UTF-8, with place 0, then 13'
unfoldable pub taken_in : ℕ → List ℕ → Result (List ℕ)
taken_in room s = short s >>= λ s. when utf8 s then fit room (document s) else refused 19 0
