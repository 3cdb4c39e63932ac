-- Markdown (01, 'Port order', src/buffer/html.rs): the text of a document, in a room of some bytes.
use Rattle.std.specs.Prelude.{ℕ, ◌+◌, ◌-◌, Bool, true, false, List, [], ◌∷◌, ◌++◌, ltb, eqb}
use Rattle.base.specs.Choice.{when◌then◌else◌}
use Rattle.base.specs.Result.{Result, gives, refused, ◌>>=◌}
use Rattle.utf8.specs.Utf8.{bytes}
use Rattle.records.specs.Records.{Token, tokens, is_end}
use Rattle.document.specs.Document.{check}
use Rattle.records.specs.declared.Style.{Style}
use Rattle.records.specs.declared.Style.TheVariants as style
use Rattle.records.specs.declared.Block.{Block}
use Rattle.records.specs.declared.Block.TheVariants as block
use Rattle.records.specs.declared.Kind.TheVariants as kind
use Rattle.splitter.specs.Split.{Chunk, raw, paragraph, line_break, split, chunk_code, chunk_ticked_code}
use Rattle.renderer.specs.Walk.{Page, with_out, with_lay, write, Turn, anywhere, walk, body}
use Rattle.skip.specs.Counter.{hides, skip_paragraph, skip_start, skip_end}
use Rattle.html_rules.specs.Marks.{separated, escaped_by}
use Rattle.html_rules.specs.declared.Markdown.{Markdown}

-- The state: nothing is kept beside the text, the numbers and the flags.

abbrev pub State : Type 0
State = Page Markdown

abbrev pub plain : Markdown
plain = record { style = style.Text; skip = 0; bare = false; mono = 0; listed = false; fenced = false; titled = false }

abbrev pub initial : State
initial = record { out = []; kept = []; lay = plain }

abbrev pub with_style : Style → Markdown → Markdown
with_style x l = record { style = x; skip = l.skip; bare = l.bare; mono = l.mono; listed = l.listed; fenced = l.fenced; titled = l.titled }

abbrev pub with_skip : ℕ → Markdown → Markdown
with_skip x l = record { style = l.style; skip = x; bare = l.bare; mono = l.mono; listed = l.listed; fenced = l.fenced; titled = l.titled }

abbrev pub with_bare : Bool → Markdown → Markdown
with_bare x l = record { style = l.style; skip = l.skip; bare = x; mono = l.mono; listed = l.listed; fenced = l.fenced; titled = l.titled }

abbrev pub with_mono : ℕ → Markdown → Markdown
with_mono x l = record { style = l.style; skip = l.skip; bare = l.bare; mono = x; listed = l.listed; fenced = l.fenced; titled = l.titled }

abbrev pub with_listed : Bool → Markdown → Markdown
with_listed x l = record { style = l.style; skip = l.skip; bare = l.bare; mono = l.mono; listed = x; fenced = l.fenced; titled = l.titled }

abbrev pub with_fenced : Bool → Markdown → Markdown
with_fenced x l = record { style = l.style; skip = l.skip; bare = l.bare; mono = l.mono; listed = l.listed; fenced = x; titled = l.titled }

abbrev pub with_titled : Markdown → Markdown
with_titled l = record { style = l.style; skip = l.skip; bare = l.bare; mono = l.mono; listed = l.listed; fenced = l.fenced; titled = true }

-- Styles (`Styles::from`, change_to_markdown_style): `_`, `**`, a backtick in this order, and closed the other way round.

abbrev pub opening : Style → List ℕ
opening style.Text = bytes ""
opening style.Emphasis = bytes "**"
opening style.Literal = bytes "**`"
opening style.Metavar = bytes "_`"
opening style.Invalid = bytes "**"

abbrev pub closing : Style → List ℕ
closing style.Text = bytes ""
closing style.Emphasis = bytes "**"
closing style.Literal = bytes "`**"
closing style.Metavar = bytes "`_"
closing style.Invalid = bytes "**"

-- a byte inside Mono: `replace('[', "\\[").replace(']', "\\]")`
unfoldable pub bracket : ℕ → List ℕ
bracket b = when eqb b 0x5B then bytes "\\[" else when eqb b 0x5D then bytes "\\]" else b ∷ []

abbrev pub bracketed : List ℕ → List ℕ
bracketed x = escaped_by bracket x

-- `matches!(self.tokens.get(ix + 1), Some(Token::BlockEnd(Block::ItemTerm)))`
unfoldable pub term_ends : List Token → Bool
term_ends [] = false
term_ends (t ∷ ts) = is_end 4 t.kind

-- What a block's start does: a text that goes out at once, the mark of a line of its own (blank_markdown_line, new_markdown_line), where an
-- empty mark separates nothing, the text after that, and the numbers and flags then.
pub record AtStart : Type 0 where
  pub lead : List ℕ
  pub line : List ℕ
  pub text : List ℕ
  pub after : Markdown

abbrev pub starting : List ℕ → List ℕ → List ℕ → Markdown → Result AtStart
starting lead line text l = gives (record { lead = lead; line = line; text = text; after = l })

abbrev pub on_line : List ℕ → List ℕ → Markdown → Result AtStart
on_line line text l = starting [] line text l

abbrev pub pushing : List ℕ → Markdown → Result AtStart
pushing text l = starting [] [] text l

-- after a term, in a DefinitionList that was opened with none closed since; before a term
abbrev pub dash : Markdown → List ℕ
dash l = when l.listed then when l.bare then bytes " " else bytes " &mdash; " else []

abbrev pub bullet : Bool → List ℕ
bullet empty = when empty then bytes "  " else bytes "- "

-- `Token::BlockStart` of the block at place p, with `empty_term` for a term: also `app_name_seen = true`, `def_list = true`, `skip.push()`,
-- `mono += 1`; 11, 'Meta in .. Markdown'
unfoldable pub started : ℕ → Block → Bool → Markdown → Result AtStart
started p block.Header empty l = on_line (bytes "\n\n") (when l.titled then bytes "## " else bytes "# ") (with_titled l)
started p block.Section2 empty l = pushing [] l
started p block.Section3 empty l = pushing (bytes "### ") l
started p block.Section4 empty l = on_line (bytes "\n") (bullet empty) (with_bare empty l)
started p block.ItemTerm empty l = on_line (bytes "\n") (bullet empty) (with_bare empty l)
started p block.ItemBody empty l = starting (dash l) (bytes "\n") (bytes "  ") l
started p block.DefinitionList empty l = pushing [] (with_listed true l)
started p block.Block empty l = pushing (bytes "\n") l
started p block.InlineBlock empty l = pushing [] (with_skip (skip_start block.InlineBlock l.skip) l)
started p block.TermRef empty l = pushing [] l
started p block.Meta empty l = refused 11 p
started p block.Mono empty l = pushing [] (with_mono (l.mono + 1) l)

-- What a block's end does: the text that goes out, and the numbers and flags then.
pub record AtEnd : Type 0 where
  pub text : List ℕ
  pub after : Markdown

abbrev pub ending : List ℕ → Markdown → Result AtEnd
ending text l = gives (record { text = text; after = l })

-- `Token::BlockEnd`: also `def_list = false`, `skip.pop()`, `mono -= 1`
unfoldable pub ended : ℕ → Block → Markdown → Result AtEnd
ended p block.Header l = ending (bytes "\n") l
ended p block.Section2 l = ending (bytes "\n") l
ended p block.Section3 l = ending (bytes "\n") l
ended p block.Section4 l = ending (bytes "\n") l
ended p block.ItemTerm l = ending [] l
ended p block.ItemBody l = ending (when l.listed then bytes "\n" else []) l
ended p block.DefinitionList l = ending (bytes "\n") (with_listed false l)
ended p block.Block l = ending (bytes "\n") l
ended p block.InlineBlock l = ending [] (with_skip (skip_end block.InlineBlock l.skip) l)
ended p block.TermRef l = ending [] l
ended p block.Meta l = refused 11 p
ended p block.Mono l = ending [] (with_mono (l.mono - 1) l)

-- Text (`Token::Text`).

-- `if !code_block { .. }` before a code line, `if code_block { .. }` before a word, and after the last chunk
abbrev pub code_begins : Markdown → List ℕ
code_begins l = when l.fenced then bytes "" else bytes "\n\n  ```text\n"

abbrev pub code_stops : Markdown → List ℕ
code_stops l = when l.fenced then bytes "\n  ```\n" else bytes ""

abbrev pub code_ends : Markdown → List ℕ
code_ends l = when l.fenced then bytes "  ```\n" else bytes ""

-- a line in ticks or a code line; a word, of which Mono escapes the brackets; a paragraph
abbrev pub line_text : List ℕ → List ℕ
line_text x = bytes "  " ++ x ++ bytes "\n"

abbrev pub word_text : Markdown → List ℕ → List ℕ
word_text l x = when ltb 0 l.mono then bracketed x else x

abbrev pub paragraph_text : Markdown → List ℕ
paragraph_text l = when l.listed then bytes "\n\n  " else bytes "\n\n"

module _ (room : ℕ) where
  -- change_to_markdown_style: the open style is closed, and another opened
  unfoldable pub change : Style → State → Result State
  change new s = write room (closing s.lay.style ++ opening new) (with_lay (with_style new) s)

  -- blank_markdown_line, new_markdown_line
  unfoldable pub separate : List ℕ → State → Result State
  separate mark s = separated room mark s.out >>= λ y. gives (with_out y s)

  -- a block starts, and ends
  unfoldable pub begin : AtStart → State → Result State
  begin o s = write room o.lead s >>= separate o.line >>= λ s₁. write room o.text (with_lay (λ _. o.after) s₁)

  unfoldable pub close : AtEnd → State → Result State
  close o s = write room o.text (with_lay (λ _. o.after) s)

  -- `Chunk::Raw`: a line in ticks (`Chunk::TICKED_CODE`), a code line (`Chunk::CODE`), or a word
  unfoldable pub raw_chunk : List ℕ → ℕ → State → Result State
  raw_chunk x w s =
      when eqb w chunk_ticked_code then (separate (bytes "\n") s >>= write room (line_text x)) else
      when eqb w chunk_code then (write room (code_begins s.lay) s >>= λ s₁. write room (line_text x) (with_lay (with_fenced true) s₁)) else
      (write room (code_stops s.lay) s >>= λ s₁. write room (word_text s.lay x) (with_lay (with_fenced false) s₁))

  -- after the last chunk of a body
  unfoldable pub body_ends : State → Result State
  body_ends s = write room (code_ends s.lay) (with_lay (with_fenced false) s)

  -- after the last record: the style is closed
  unfoldable pub finish : State → Result (List ℕ)
  finish s = change style.Text s >>= λ s₁. gives s₁.out

  module _ (full : Bool) where
    -- a chunk of a body; 'a paragraph with `full` off sets [the skip counter] to 1'
    unfoldable pub chunk : Chunk → State → Result State
    chunk (raw x w) s = raw_chunk x w s
    chunk line_break s = write room (bytes "\n") s
    chunk paragraph s = when full then write room (paragraph_text s.lay) s else gives (with_lay (λ l. with_skip (skip_paragraph l.skip) l) s)

    -- a record: 'It hides text only'
    unfoldable pub turn : Turn State
    turn p q (kind.Text st) x ts s = when hides s.lay.skip then gives s else (change st s >>= body full (anywhere chunk) (split x) >>= body_ends)
    turn p q (kind.Start b) x ts s = change style.Text s >>= λ s₁. started p b (term_ends ts) s₁.lay >>= λ o. begin o s₁
    turn p q (kind.End b) x ts s = change style.Text s >>= λ s₁. ended p b s₁.lay >>= λ o. close o s₁
    turn p q kind.Unknown x ts s = gives s

    -- the text of some records, whatever form they are stored in
    abbrev pub markdown_on : List Token → Result (List ℕ)
    markdown_on ts = walk turn ts initial >>= finish

    -- the text of a document, or its refusal: '1, .. then record by record 2 to 7, then 8; then the first of 10 to 13 that the walk
    -- meets'
    unfoldable pub markdown : List ℕ → Result (List ℕ)
    markdown s = check s >>= λ _. markdown_on (tokens 0 0 s)
