-- What is left of a walk, for HTML and Markdown: the chunks of a body, one on. Assumes nothing.
use Prim.Native.Nat.{ℕ}
use mathlib.Core.Path.{◌≡◌}
use mathlib.Core.Bool.{Bool, true, false}
use mathlib.Core.List.{List, []}
use Rattle.base.specs.Result.{Result, ◌>>=◌}
use Rattle.splitter.specs.Split.{Chunk}
use Rattle.splitter.specs.Answers.{chunk_of, placed_of, placed_from}
use Rattle.splitter.specs.declared.Cursor.{Cursor}
use Rattle.splitter.specs.declared.Piece.{Piece}
use Rattle.splitter.proofs.Answers.{Took}
use Rattle.renderer.specs.Walk.{Page, last, anywhere}
use Rattle.renderer.proofs.Leads.{Leads, leads-on, leads-same, chunks_then, body-chunk}
use Rattle.renderer.proofs.Leads.{body-last, body_end}

-- the chunks of a body from a cursor on are left, and then what follows the body
module _ {L : Type 0} (full : Bool) (chunk : Chunk → Page L → Result (Page L)) (after : Page L → Result (List ℕ)) (whole : Result (List ℕ))
    (y : List ℕ) (c : Cursor) (shown : Result (Page L)) (leads : Leads whole (chunks_then full (anywhere chunk) after (placed_from y c)) shown) where
  module _ {p : Piece} {d : Cursor} (t : Took y c p d) (shown' : Result (Page L)) (e : shown' ≡ (shown >>= chunk (chunk_of y p))) where
    -- a chunk that goes on
    pub chunks-on : last full (chunk_of y p) ≡ false → Leads whole (chunks_then full (anywhere chunk) after (placed_from y d)) shown'
    chunks-on f =
        leads-on whole _ shown leads (chunk (chunk_of y p)) _ shown'
        (body-chunk full (anywhere chunk) after (placed_of y p) (placed_from y c) (placed_from y d) t.chunks f) e

    -- one that ends the walk of its body
    pub chunks-stop : last full (chunk_of y p) ≡ true → Leads whole after shown'
    chunks-stop f =
        leads-on whole _ shown leads (chunk (chunk_of y p)) after shown'
        (body-last full (anywhere chunk) after (placed_of y p) (placed_from y c) (placed_from y d) t.chunks f) e

  -- no chunk is left
  pub chunks-done : placed_from y c ≡ [] → Leads whole after shown
  chunks-done e = leads-same whole _ shown leads after (body_end full (anywhere chunk) after (placed_from y c) e)
