-- What the functions of Markdown's chunks promise each other; no rule of 01 stands here.
use Rattle.std.specs.Prelude.{ℕ, Bool, true, false, List, eqb}
use Rattle.base.specs.Choice.{when◌then◌else◌}
use Rattle.base.specs.Result.{Result, ◌>>=◌}
use Rattle.utf8.specs.Utf8.{bytes}
use Rattle.room.specs.Room.{extended}
use Rattle.splitter.specs.Split.{Chunk, raw, paragraph, line_break, chunk_code, chunk_ticked_code}
use Rattle.html_rules.specs.Marks.{separated}
use Rattle.html_rules.specs.Markdown.{code_begins, code_stops, line_text, with_fenced, word_text, paragraph_text}
use Rattle.html_rules.specs.declared.Markdown.{Markdown}

-- the text after a chunk that does not end the walk of its body, and whether code lines are then being written
unfoldable pub raw_rule : ℕ → Markdown → List ℕ → ℕ → List ℕ → Result (List ℕ)
raw_rule limit l x w y =
    when eqb w chunk_ticked_code then (separated limit (bytes "\n") y >>= extended limit (line_text x)) else
    when eqb w chunk_code then (extended limit (code_begins l) y >>= extended limit (line_text x)) else
    (extended limit (code_stops l) y >>= extended limit (word_text l x))

abbrev pub chunk_rule : ℕ → Markdown → Chunk → List ℕ → Result (List ℕ)
chunk_rule limit l (raw x w) = raw_rule limit l x w
chunk_rule limit l paragraph = extended limit (paragraph_text l)
chunk_rule limit l line_break = extended limit (bytes "\n")

abbrev pub fence_after : Chunk → Bool → Bool
fence_after (raw x w) f = when eqb w chunk_ticked_code then f else when eqb w chunk_code then true else false
fence_after paragraph f = f
fence_after line_break f = f

-- a chunk's change of the flags
abbrev pub fencing : Chunk → Markdown → Markdown
fencing c l = with_fenced (fence_after c l.fenced) l
