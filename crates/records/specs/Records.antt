-- The records of a stored document (01, 'The stored document'): their kinds and bodies, the document's text, and its printing order.
use Rattle.std.specs.Prelude.{ℕ, zero, suc, ◌+◌, ◌*◌, ◌-◌, Bool, ◌&&◌, true, false, List, [], ◌∷◌, ◌++◌, leb, eqb, length, take, drop, get_or}
use Rattle.base.specs.Choice.{when◌then◌else◌, among}
use Rattle.white.specs.White.{printing}
use Rattle.records.specs.declared.Style.{Style}
use Rattle.records.specs.declared.Style.TheVariants as style
use Rattle.records.specs.declared.Block.{Block}
use Rattle.records.specs.declared.Block.TheVariants as block
use Rattle.records.specs.declared.Kind.{Kind}
use Rattle.records.specs.declared.Kind.TheVariants as kind

-- a number from its bytes, 'little-endian'
unfoldable pub little : List ℕ → ℕ
little [] = 0
little (b ∷ s) = b + 256 * little s

-- 'text in style Text, Emphasis, Literal, Metavar, Invalid'
unfoldable pub styles : List Style
styles = style.Text ∷ style.Emphasis ∷ style.Literal ∷ style.Metavar ∷ style.Invalid ∷ []

-- '0 Header, 1 Section2, .. 11 Mono'
unfoldable pub blocks : List Block
blocks =
    block.Header ∷ block.Section2 ∷ block.Section3 ∷ block.Section4 ∷ block.ItemTerm ∷ block.ItemBody ∷ block.DefinitionList
    ∷ block.Block ∷ block.InlineBlock ∷ block.TermRef ∷ block.Meta ∷ block.Mono ∷ []

-- a style's kind, and a block's index: its place in the list (the laws `kind_style`, `kind_opens`, `kind_closes`)
abbrev pub number : Style → ℕ
number style.Text = 0x0001
number style.Emphasis = 0x0002
number style.Literal = 0x0003
number style.Metavar = 0x0004
number style.Invalid = 0x0005

abbrev pub index : Block → ℕ
index block.Header = 0
index block.Section2 = 1
index block.Section3 = 2
index block.Section4 = 3
index block.ItemTerm = 4
index block.ItemBody = 5
index block.DefinitionList = 6
index block.Block = 7
index block.InlineBlock = 8
index block.TermRef = 9
index block.Meta = 10
index block.Mono = 11

-- 'Kinds 0x0001 to 0x0005 are text .. A block's start is 0x0100 plus its index, its end 0x0200 plus it'
unfoldable pub kind_of : ℕ → Kind
kind_of k =
    when among 0x0001 0x0005 k then kind.Text (get_or styles (k - 0x0001) style.Text) else
    when among 0x0100 0x010B k then kind.Start (get_or blocks (k - 0x0100) block.Header) else
    when among 0x0200 0x020B k then kind.End (get_or blocks (k - 0x0200) block.Header) else kind.Unknown

-- A record: where it starts, where its body starts, its kind and its body.
pub record Token : Type 0 where
  pub place : ℕ
  pub start : ℕ
  pub kind : Kind
  pub body : List ℕ

-- 'four-byte body length, two-byte kind, body': the length of the body of the first record of some bytes
unfoldable pub size : List ℕ → ℕ
size s = little (take 4 s)

-- the first record of some bytes, which start at place p; its body starts after its length and kind, as far as these are there
unfoldable pub token_at : ℕ → List ℕ → Token
token_at p s = record { place = p; start = p + length (take 6 s); kind = kind_of (little (take 2 (drop 4 s))); body = take (size s) (drop 6 s) }

-- the records of some bytes, which start at place p, after `pass` bytes that are passed over
unfoldable pub tokens : ℕ → ℕ → List ℕ → List Token
tokens p pass [] = []
tokens p (suc pass) (b ∷ s) = tokens (p + 1) pass s
tokens p zero (b ∷ s) = token_at p (b ∷ s) ∷ tokens (p + 1) (5 + size (b ∷ s)) s

-- the records from a place on
abbrev pub tokens_from : List ℕ → ℕ → List Token
tokens_from document at = tokens at 0 (drop at document)

-- not refusal 2: 'under 6 bytes left, or body longer than what is left'
unfoldable pub record_fits : List ℕ → Bool
record_fits s = leb 6 (length s) && leb (size s) (length s - 6)

-- a record is text
abbrev pub is_text : Kind → Bool
is_text (kind.Text s) = true
is_text (kind.Start b) = false
is_text (kind.End b) = false
is_text kind.Unknown = false

-- a record is the start, or the end, of the block with an index
abbrev pub is_start : ℕ → Kind → Bool
is_start i (kind.Text s) = false
is_start i (kind.Start b) = eqb (index b) i
is_start i (kind.End b) = false
is_start i kind.Unknown = false

abbrev pub is_end : ℕ → Kind → Bool
is_end i (kind.Text s) = false
is_end i (kind.Start b) = false
is_end i (kind.End b) = eqb (index b) i
is_end i kind.Unknown = false

-- a record is the start or the end of the block with an index
abbrev pub is_of : ℕ → Kind → Bool
is_of i (kind.Text s) = false
is_of i (kind.Start b) = eqb (index b) i
is_of i (kind.End b) = eqb (index b) i
is_of i kind.Unknown = false

-- 'The document's text is its bodies joined.'
unfoldable pub joined : List Token → List ℕ
joined [] = []
joined (t ∷ ts) = t.body ++ joined ts

unfoldable pub document_text : List ℕ → List ℕ
document_text s = joined (tokens 0 0 s)

-- 'a text record adds its body's printing characters as they stand, a TermRef start or end adds one backtick, any other record
-- adds nothing'
unfoldable pub adds : Kind → List ℕ → List ℕ
adds (kind.Text s) body = printing body
adds (kind.Start b) body = when eqb (index b) 9 then 0x60 ∷ [] else []
adds (kind.End b) body = when eqb (index b) 9 then 0x60 ∷ [] else []
adds kind.Unknown body = []

-- 'built from nothing, record by record'
unfoldable pub order : List Token → List ℕ
order [] = []
order (t ∷ ts) = adds t.kind t.body ++ order ts

-- 'The document's printing order'
unfoldable pub printing_order : List ℕ → List ℕ
printing_order s = order (tokens 0 0 s)
