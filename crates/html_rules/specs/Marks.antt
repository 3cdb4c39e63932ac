-- What the rules of HTML and Markdown (01, 'Port order', src/buffer/html.rs) share.
use Rattle.std.specs.Prelude.{ℕ, ◌||◌, List, [], ◌∷◌, ◌++◌}
use Rattle.base.specs.Choice.{when◌then◌else◌}
use Rattle.base.specs.Bytes.{ends_with}
use Rattle.base.specs.Result.{Result, gives}
use Rattle.room.specs.Room.{extended}
use Rattle.renderer.specs.Walk.{empty}

-- 'Make it so new text is separated by an empty line' (blank_html_line, blank_markdown_line, new_markdown_line): a mark goes out,
-- unless the text is empty or ends with it
unfoldable pub separated : ℕ → List ℕ → List ℕ → Result (List ℕ)
separated room mark out = when empty out || ends_with mark out then gives out else extended room mark out

-- a chunk's bytes, each replaced by what stands for it (`replace` in render_html and render_markdown)
unfoldable pub escaped_by : (ℕ → List ℕ) → List ℕ → List ℕ
escaped_by entity [] = []
escaped_by entity (b ∷ s) = entity b ++ escaped_by entity s
