-- What the functions of Markdown's marks promise each other; no rule of 01 stands here.
use Rattle.std.specs.Prelude.{ℕ, ◌≤◌, Bool, true, false, ◌||◌, List, [], ◌++◌, eqb}
use Rattle.base.specs.Choice.{when◌then◌else◌}
use Rattle.base.specs.Result.{Result, gives, refused, ◌>>=◌}
use Rattle.room.specs.Room.{extended}
use Rattle.records.specs.Records.{index}
use Rattle.records.specs.declared.Style.{Style}
use Rattle.records.specs.declared.Style.TheVariants as style
use Rattle.records.specs.declared.Block.{Block}
use Rattle.html_rules.specs.Marks.{separated}
use Rattle.html_rules.specs.Markdown.{AtStart, AtEnd, started, ended, with_style, with_bare, opening, closing}
use Rattle.html_rules.specs.declared.Markdown.{Markdown}
use Rattle.document.specs.Document.{max_bytes}

-- `empty_term = ..` at an ItemTerm or a Section4, before its text
unfoldable pub met_term : Block → Bool → Markdown → Markdown
met_term b empty l = when eqb (index b) 3 || eqb (index b) 4 then with_bare empty l else l

-- what the rules say of a block's start once its term is met, and of its end; of Meta, which they refuse, nothing
abbrev pub given_start : Markdown → Result AtStart → AtStart
given_start l (gives o) = o
given_start l (refused n p) = record { lead = []; line = []; text = []; after = l }

abbrev pub given_end : Markdown → Result AtEnd → AtEnd
given_end l (gives o) = o
given_end l (refused n p) = record { text = []; after = l }

unfoldable pub start_of : Markdown → Block → AtStart
start_of l b = given_start l (started 0 b l.bare l)

unfoldable pub end_of : Markdown → Block → AtEnd
end_of l b = given_end l (ended 0 b l)

-- the text after a block's start
unfoldable pub start_rule : ℕ → Markdown → Block → List ℕ → Result (List ℕ)
start_rule limit l b x = extended limit (start_of l b).lead x >>= separated limit (start_of l b).line >>= extended limit (start_of l b).text

-- the marks that open a style, or those that close it
abbrev pub marks : Bool → Style → List ℕ
marks true st = opening st
marks false st = closing st

-- the text that a style leaves when it is closed
abbrev pub closed : ℕ → Style → List ℕ → Result (List ℕ)
closed limit st x = extended limit (closing st ++ opening style.Text) x

-- the text after a block's start with the open style closed, and after its end
abbrev pub started_text : ℕ → Markdown → Block → List ℕ → Result (List ℕ)
started_text limit l b x = closed limit l.style x >>= start_rule limit (with_style style.Text l) b

abbrev pub ended_text : ℕ → Markdown → Block → List ℕ → Result (List ℕ)
ended_text limit l b x = closed limit l.style x >>= extended limit (end_of (with_style style.Text l) b).text

-- both numbers are as small as in an accepted document
pub record Few (l : Markdown) : Type 0 where
  pub skipped : l.skip ≤ max_bytes
  pub opened : l.mono ≤ max_bytes
