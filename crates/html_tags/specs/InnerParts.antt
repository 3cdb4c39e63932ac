-- What the functions inside this crate promise each other; no rule of 01 stands here.
use Rattle.std.specs.Prelude.{ℕ, Bool, List, ◌++◌, eqb}
use Rattle.base.specs.Choice.{when◌then◌else◌}
use Rattle.base.specs.Result.{Result, gives, ◌>>=◌}
use Rattle.room.specs.Room.{extended}
use Rattle.records.specs.Records.{index}
use Rattle.records.specs.declared.Style.{Style}
use Rattle.records.specs.declared.Style.TheVariants as style
use Rattle.records.specs.declared.Block.{Block}
use Rattle.splitter.specs.Split.{Chunk, raw, paragraph, line_break}
use Rattle.html_rules.specs.Marks.{separated}
use Rattle.html_rules.specs.Html.{opening, closing, escaped, br}

-- what a chunk writes, where it does not end the walk of its body
abbrev pub chunk_text : Bool → Chunk → List ℕ
chunk_text strict (raw x w) = escaped strict x
chunk_text strict paragraph = br
chunk_text strict line_break = br

-- the text that a style leaves when it is closed
abbrev pub closed : ℕ → Style → List ℕ → Result (List ℕ)
closed limit st x = extended limit (closing st ++ opening style.Text) x

-- a tag, for a Header in a line of its own
unfoldable pub headed : ℕ → Block → List ℕ → List ℕ → Result (List ℕ)
headed limit b tag x = (when eqb (index b) 0 then separated limit br x else gives x) >>= extended limit tag

-- the text after a block's start or end
unfoldable pub block_text : ℕ → Style → Block → List ℕ → List ℕ → Result (List ℕ)
block_text limit st b tag x = closed limit st x >>= headed limit b tag
