-- What copying words promises the walk of a renderer, whichever it is; no rule of 01 stands here.
use Rattle.std.specs.Prelude.{ℕ, ◌+◌, ◌≤◌, ◌≡◌, Bool, List, length}
use Rattle.base.specs.Result.{Result, gives, ◌>>=◌}
use Rattle.room.specs.Lent.{Lent}
use Rattle.splitter.specs.Split.{Placed}
use Rattle.splitter.specs.Answers.{placed_from, cursor}
use Rattle.splitter.specs.declared.Code.{Code}
use Rattle.splitter.specs.declared.Code.TheVariants as code
use Rattle.renderer.specs.Walk.{Page, page, body}

-- the page whose text stands in a lent room
abbrev pub page_of : {L : Type 0} → Lent → List ℕ → L → Result (Page L)
page_of v kept lay = v.shown >>= λ o. gives (page kept lay o)

-- A renderer's rule for a chunk, by what the renderer is asked for and the room's length.
module _ {I L : Type 0} (full : I → Bool) (chunk : I → ℕ → Placed → Page L → Result (Page L)) where
  -- the chunks of a body from a cursor on
  abbrev pub walk_from : I → ℕ → List ℕ → ℕ → Code → Page L → Result (Page L)
  walk_from i limit x at c = body (full i) (chunk i limit) (placed_from x (cursor at c))

  -- Where `Plain` holds, the chunks from one place on give what those from another do, with the text and what is kept as they are there.
  pub record Advance (Plain : I → L → Type 0) (moved : L → L) (x : List ℕ) (old : Lent) (at : ℕ) (new : Lent) (at' : ℕ) : Type 0 where
    pub name : new.name ≡ old.name
    pub size : new.size ≡ old.size
    pub order : at ≤ at'
    pub within : at ≤ length x + 1 → at' ≤ length x + 1
    pub same : (i : I) (kept : List ℕ) (lay : L) → Plain i lay
        → (page_of new kept (moved lay) >>= walk_from i old.size x at' code.No) ≡ (page_of old kept lay >>= walk_from i old.size x at code.No)
