-- What is promised of lines that are written in one pass; no rule of 01 stands here.
use Rattle.std.specs.Prelude.{List, [], ℕ, ◌+◌, length, drop}
use Rattle.splitter.specs.Split.{line}
use Rattle.splitter.specs.Answers.{cursor}
use Rattle.splitter.specs.declared.Code.{Code}
use Rattle.splitter.specs.declared.Code.TheVariants as code
use Rattle.splitter.specs.declared.Cursor.{Cursor}

-- what is left of a line at a place outside ticks; none in ticks
abbrev pub line_from : List ℕ → ℕ → Code → List ℕ
line_from body at code.No = line (drop at body)
line_from body at code.First = []
line_from body at code.Rest = []

abbrev pub plain_line : List ℕ → Cursor → List ℕ
plain_line body c = line_from body c.at c.code

-- the cursor after it
abbrev pub after_line : List ℕ → Cursor → Cursor
after_line body c = cursor (c.at + length (plain_line body c)) c.code
