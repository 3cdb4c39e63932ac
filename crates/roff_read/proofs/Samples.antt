-- Bytes of roff and what they tell, and documents that share a page, by computation. Assumes nothing.
use Rattle.roff_read.proofs.Names.{◌≡◌, refl, ap, false≢true, List, [], ◌∷◌, ◌++◌, map, ℕ, eqb, get_or, when◌then◌else◌, Result, gives, refused, ◌>>=◌}
use Rattle.roff_read.proofs.Names.{encode, bytes, maps_to, upper, extended, guard, backslash, replaced, special_byte, spaces_byte, escape_byte, escape}
use Rattle.roff_read.proofs.Names.{line_start, preamble, font_escape, argument, linebreak, control0, control, plaintext, text as roff_text, captures}
use Rattle.roff_read.proofs.Names.{heading, subsection, started, ended, token, turn, roff, controls, sets, says, next, read_back}
use Prim.Native.String.{String}
use Rattle.base.specs.Stack.{top, pushed, popped}
use Rattle.utf8.specs.Utf8.{table, row_of}
use Rattle.upper.specs.Table.{table as mappings}
use Rattle.records.specs.Records.{little, styles, blocks, kind_of, size, token_at, tokens, record_fits}
use Rattle.document.specs.Document.{opens, closes, bodiless, accept, first, reads, open_blocks, short, closed, check}
use Rattle.records.specs.Stored.{little_bytes, stored, text, start, end, around}
use Rattle.records.specs.declared.Style.TheVariants as style
use Rattle.records.specs.declared.Block.TheVariants as block
use Rattle.renderer.specs.Walk.{walk}
use Rattle.roff_escape.specs.Monoid.{writes, begun, new_line, put, push, pushes}
use Rattle.reader.specs.Reader as reader

-- Reading back

-- some bytes of roff, and the text that they tell
pub record Told : Type 0 where
  pub roff : String
  pub text : String

abbrev tells : String → String → Told
tells r t = record { roff = r; text = t }

-- a font mark in text, escapes, a line end that is stripped, control lines and headings
unfoldable pub samples : List Told
samples =
    tells "\\fR\\\\fP\\fP" "\\fP"
    ∷ tells "\\fIit\\*(Aqs\n\\&.\\-\n\\&\\*(Aq\\fP" "it's\n.-\n'"
    ∷ tells ".TP\n.SS\n\\fBa .b\\fP\n" "a .b"
    ∷ tells ".SS AB\n\\fRc\\fP\n.SH \"\"\n" "c"
    ∷ []

pub samples_hold : map (λ (s : Told). read_back (bytes s.roff)) samples ≡ map (λ (s : Told). bytes s.text) samples
unfolding samples when◌then◌else◌ encode bytes controls sets says next reader.read
samples_hold = refl

-- Documents that share a page

pub record Shared : Type 0 where
  pub one : List ℕ
  pub other : List ℕ
  pub page : String

abbrev share : List ℕ → List ℕ → String → Shared
share d e p = record { one = d; other = e; page = p }

-- The smallest have six bytes each, or none and twelve: two styles in one font, and a block that writes nothing. Then a heading, in upper case; and
-- line ends inside an ItemTerm, with 02's exception, a dot after one of them.
unfoldable pub shared : List Shared
shared =
    share (text style.Metavar []) (text style.Invalid []) "\\fI\\fP"
    ∷ share [] (around block.Mono []) ""
    ∷ share (around block.Header (text style.Text (bytes "a"))) (around block.Header (text style.Text (bytes "A"))) ".SH A\n"
    ∷ share (around block.ItemTerm (text style.Text (bytes "a\n.b"))) (around block.ItemTerm (text style.Text (bytes "a .b"))) ".TP\n\\fRa .b\\fP\n"
    ∷ []

pub shared_hold : map (λ (s : Shared). roff 60 s.one ∷ roff 60 s.other ∷ []) shared
    ≡ map (λ (s : Shared). gives (preamble ++ bytes s.page) ∷ gives (preamble ++ bytes s.page) ∷ []) shared
unfolding shared when◌then◌else◌ ◌>>=◌ top pushed popped table row_of encode bytes little styles blocks kind_of size token_at tokens record_fits opens closes
    bodiless accept first reads open_blocks short closed check little_bytes stored text start end around extended walk guard backslash replaced special_byte
    spaces_byte escape_byte escape line_start preamble writes begun new_line put push pushes font_escape argument linebreak control0 control plaintext
    roff_text mappings maps_to upper captures heading subsection started ended token turn roff
shared_hold = refl

-- so that no page tells its document: the first two are told apart by their fifth byte
pub no-document : ((room : ℕ) (d e page : List ℕ) → roff room d ≡ gives page → roff room e ≡ gives page → d ≡ e) → ⊥
unfolding shared little_bytes stored text
no-document all =
    let pages = ap (λ (l : List (List (Result (List ℕ)))). get_or l 0 []) shared_hold in
    let same = all 60 (text style.Metavar []) (text style.Invalid []) (preamble ++ bytes "\\fI\\fP")
    (ap (λ (l : List (Result (List ℕ))). get_or l 0 (refused 0 0)) pages) (ap (λ (l : List (Result (List ℕ))). get_or l 1 (refused 0 0)) pages) in
    false≢true (ap (λ (x : List ℕ). eqb (get_or x 4 0) 5) same)
