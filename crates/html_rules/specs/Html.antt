-- HTML and strict HTML (01, 'Port order', src/buffer/html.rs; strict HTML by 02, point 5): the text of a document, in a room of some bytes.
use Rattle.std.specs.Prelude.{ℕ, Bool, ◌&&◌, List, [], ◌∷◌, ◌++◌, eqb}
use Rattle.base.specs.Choice.{when◌then◌else◌}
use Rattle.base.specs.Result.{Result, gives, refused, ◌>>=◌}
use Rattle.base.specs.Stack.{top, pushed, popped}
use Rattle.utf8.specs.Utf8.{bytes}
use Rattle.records.specs.Records.{index, tokens, Token}
use Rattle.document.specs.Document.{check}
use Rattle.records.specs.declared.Style.{Style}
use Rattle.records.specs.declared.Style.TheVariants as style
use Rattle.records.specs.declared.Block.{Block}
use Rattle.records.specs.declared.Block.TheVariants as block
use Rattle.records.specs.declared.Kind.TheVariants as kind
use Rattle.splitter.specs.Split.{Chunk, raw, paragraph, line_break, split}
use Rattle.renderer.specs.Walk.{Page, with_out, with_kept, with_lay, write, Turn, anywhere, walk, body}
use Rattle.skip.specs.Counter.{hides, skip_paragraph, skip_start, skip_end}
use Rattle.html_rules.specs.Marks.{separated, escaped_by}
use Rattle.html_rules.specs.declared.Html.{Html}

-- The state: the indices of the open blocks are what is kept (`stack`), the open style and the skip counter stand beside it.

abbrev pub State : Type 0
State = Page Html

abbrev pub plain : Html
plain = record { style = style.Text; skip = 0 }

abbrev pub initial : State
initial = record { out = []; kept = []; lay = plain }

abbrev pub with_style : Style → Html → Html
with_style x l = record { style = x; skip = l.skip }

abbrev pub with_skip : ℕ → Html → Html
with_skip x l = record { style = l.style; skip = x }

-- `stack.last().copied() == Some(Block::DefinitionList)`
abbrev pub in_list : List ℕ → Bool
in_list stack = eqb (top stack) 6

-- Styles (`Styles::from`, change_style): `<tt>`, `<b>`, `<i>` in this order, and closed the other way round.

abbrev pub opening : Style → List ℕ
opening style.Text = bytes ""
opening style.Emphasis = bytes "<b>"
opening style.Literal = bytes "<tt><b>"
opening style.Metavar = bytes "<tt><i>"
opening style.Invalid = bytes "<b>"

abbrev pub closing : Style → List ℕ
closing style.Text = bytes ""
closing style.Emphasis = bytes "</b>"
closing style.Literal = bytes "</b></tt>"
closing style.Metavar = bytes "</i></tt>"
closing style.Invalid = bytes "</b>"

-- Tags of blocks that start and end (render_html, `Token::BlockStart` and `Token::BlockEnd`), inside a DefinitionList or not.

abbrev pub start_tag : Bool → Block → List ℕ
start_tag listed block.Header = bytes "# "
start_tag listed block.Section2 = bytes "<div>\n"
start_tag listed block.Section3 = bytes "<div style='padding-left: 0.5em'>"
start_tag listed block.Section4 = bytes "<div style='padding-left: 0.5em'>"
start_tag listed block.ItemTerm = bytes "<dt>"
start_tag listed block.ItemBody = when listed then bytes "<dd>" else bytes "<li>"
start_tag listed block.DefinitionList = bytes "<dl>"
start_tag listed block.Block = bytes "<p>"
start_tag listed block.InlineBlock = bytes ""
start_tag listed block.TermRef = bytes ""
start_tag listed block.Meta = bytes ""
start_tag listed block.Mono = bytes ""

abbrev pub end_tag : Bool → Block → List ℕ
end_tag listed block.Header = bytes ""
end_tag listed block.Section2 = bytes "</div>"
end_tag listed block.Section3 = bytes "</div>"
end_tag listed block.Section4 = bytes "</div>"
end_tag listed block.ItemTerm = bytes "</dt>\n"
end_tag listed block.ItemBody = when listed then bytes "</dd>\n" else bytes "</li>\n"
end_tag listed block.DefinitionList = bytes "</dl>\n"
end_tag listed block.Block = bytes "</p>"
end_tag listed block.InlineBlock = bytes ""
end_tag listed block.TermRef = bytes ""
end_tag listed block.Meta = bytes ""
end_tag listed block.Mono = bytes ""

-- a line break, and what separates lines (blank_html_line)
unfoldable pub br : List ℕ
br = bytes "<br>\n"

-- Text (render_html, `Chunk::Raw`).

-- what stands for a byte: `replace('<', "&lt;").replace('>', "&gt;")`; in strict HTML also 'every `&` of the text must become `&amp;`'
-- (02, point 5), whatever bytes follow it
unfoldable pub entity : Bool → ℕ → List ℕ
entity strict b =
    when eqb b 0x3C then bytes "&lt;" else
    when eqb b 0x3E then bytes "&gt;" else
    when strict && eqb b 0x26 then bytes "&amp;" else b ∷ []

abbrev pub escaped : Bool → List ℕ → List ℕ
escaped strict x = escaped_by (entity strict) x

-- '`CSS` included'
unfoldable pub css : List ℕ
css = bytes "\n<style>\ndiv.bpaf-doc {\n    padding: 14px;\n    background-color:var(--code-block-background-color);\n    font-family: \"Source Code Pro\", monospace;\n    margin-bottom: 0.75em;\n}\ndiv.bpaf-doc dt { margin-left: 1em; }\ndiv.bpaf-doc dd { margin-left: 3em; }\ndiv.bpaf-doc dl { margin-top: 0; padding-left: 1em; }\ndiv.bpaf-doc  { padding-left: 1em; }\n</style>"

module _ (room : ℕ) where
  -- change_style: the open style is closed, and another opened
  unfoldable pub change : Style → State → Result State
  change new s = write room (closing s.lay.style ++ opening new) (with_lay (with_style new) s)

  -- blank_html_line
  unfoldable pub blank_line : State → Result State
  blank_line s = separated room br s.out >>= λ y. gives (with_out y s)

  -- the start or the end of a block at a place, with its tag: refusal 11, 'Meta in HTML'; a Header has a line of its own
  unfoldable pub tagged : ℕ → Block → List ℕ → State → Result State
  tagged p b tag s =
      when eqb (index b) 10 then refused 11 p else
      ((when eqb (index b) 0 then blank_line s else gives s) >>= write room tag)

  -- `stack.push(b)`, and 'InlineBlock's start adds 1 if it is over 0'
  unfoldable pub enter : Block → State → State
  enter b s = with_kept (pushed (index b) s.kept) (with_lay (λ l. with_skip (skip_start b l.skip) l) s)

  -- `stack.pop()`, and 'its end takes 1 down to 0'
  unfoldable pub leave : Block → State → State
  leave b s = with_kept (popped s.kept) (with_lay (λ l. with_skip (skip_end b l.skip) l) s)

  -- after the last record: the style is closed, and the style sheet follows
  unfoldable pub finish : List ℕ → State → Result (List ℕ)
  finish sheet s = change style.Text s >>= write room sheet >>= λ s₁. gives s₁.out

  module _ (strict full : Bool) where
    -- a chunk of a body; 'a paragraph with `full` off sets [the skip counter] to 1'
    unfoldable pub chunk : Chunk → State → Result State
    chunk (raw x w) s = write room (escaped strict x) s
    chunk line_break s = write room br s
    chunk paragraph s = when full then write room br s else gives (with_lay (λ l. with_skip (skip_paragraph l.skip) l) s)

    -- a record: 'It hides text only'
    unfoldable pub turn : Turn State
    turn p q (kind.Text st) x ts s = when hides s.lay.skip then gives s else (change st s >>= body full (anywhere chunk) (split x))
    turn p q (kind.Start b) x ts s = change style.Text s >>= tagged p b (start_tag (in_list s.kept) b) >>= λ s₁. gives (enter b s₁)
    turn p q (kind.End b) x ts s = change style.Text (leave b s) >>= tagged p b (end_tag (in_list (popped s.kept)) b)
    turn p q kind.Unknown x ts s = gives s

    -- the text of some records with or without the style sheet, whatever form they are stored in
    abbrev pub html_on : Bool → List Token → Result (List ℕ)
    html_on sheet ts = walk turn ts initial >>= finish (when sheet then css else [])

    -- the text of a document with or without the style sheet, or its refusal: '1, .. then record by record 2 to 7, then 8; then the
    -- first of 10 to 13 that the walk meets'
    unfoldable pub html : Bool → List ℕ → Result (List ℕ)
    html sheet s = check s >>= λ _. html_on sheet (tokens 0 0 s)
