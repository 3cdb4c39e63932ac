-- The struct that holds a body and its tick state, as the splitter's rules see it; no rule of 01 stands here.
use Rattle.std.specs.Prelude.{ℕ, ◌≡◌, List, Option, Some, None}
use Rattle.std.specs.Borrow.{Bor}
use Rattle.splitter.specs.Split.{Placed}
use Rattle.splitter.specs.Answers.{first_chunk, placed_from}
use Rattle.splitter.specs.declared.Cursor.{Cursor}
use Rattle.splitter.specs.declared.Piece.{Piece}
use Rattle.splitter_iter.specs.declared.Splitter.{Splitter}

abbrev pub splitter : Bor (List ℕ) → Cursor → Splitter
splitter x c = record { input = x; cursor = c }

-- the chunks that are left
abbrev pub left : Splitter → List Placed
left s = placed_from s.input.now s.cursor

-- the cursor after a step; where there was no chunk, the one before it
abbrev pub after_step : Option (Piece × Cursor) → Cursor → Cursor
after_step (Some x) c = x.1
after_step None c = c

-- a step gives the first chunk that is left, which is then no longer left
abbrev pub Steps : Splitter → Option (Piece × Cursor) → Splitter → Type 0
Steps s r t = (r ≡ first_chunk s.input.now s.cursor) × (t ≡ splitter s.input (after_step r s.cursor))
