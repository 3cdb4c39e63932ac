-- What the renderers share: the page, the walk over records, the walk over a body's chunks.
use Rattle.std.specs.Prelude.{ℕ, Bool, true, false, not, List, [], ◌∷◌}
use Rattle.base.specs.Choice.{when◌then◌else◌}
use Rattle.base.specs.Result.{Result, gives, ◌>>=◌}
use Rattle.room.specs.Room.{extended, seen}
use Rattle.records.specs.Records.{Token}
use Rattle.records.specs.declared.Kind.{Kind}
use Rattle.splitter.specs.Split.{Chunk, raw, paragraph, line_break, Placed}

-- The text so far, what a renderer keeps as a list (margins, open blocks or a captured heading), and its numbers and flags.
pub record Page (L : Type 0) : Type 0 where
  pub out : List ℕ
  pub kept : List ℕ
  pub lay : L

module _ {L : Type 0} where
  abbrev pub with_out : List ℕ → Page L → Page L
  with_out x s = record { out = x; kept = s.kept; lay = s.lay }

  abbrev pub with_kept : List ℕ → Page L → Page L
  with_kept x s = record { out = s.out; kept = x; lay = s.lay }

  abbrev pub with_lay : (L → L) → Page L → Page L
  with_lay f s = record { out = s.out; kept = s.kept; lay = f s.lay }

  -- some bytes go out, or '13 no room'
  unfoldable pub write : ℕ → List ℕ → Page L → Result (Page L)
  write room x s = extended room x s.out >>= λ y. gives (with_out y s)

  abbrev pub page : List ℕ → L → List ℕ → Page L
  page kept lay x = record { out = x; kept = kept; lay = lay }

  -- the page whose text stands in a room up to a length
  unfoldable pub shown : List ℕ → ℕ → List ℕ → L → Result (Page L)
  shown room len kept lay = seen room len >>= λ x. gives (page kept lay x)

-- nothing has been written
unfoldable pub empty : List ℕ → Bool
empty [] = true
empty (b ∷ s) = false

-- what a renderer does at a record: its place, where its body starts, its kind, its body, the records after it
abbrev pub Turn : Type 0 → Type 0
Turn S = ℕ → ℕ → Kind → List ℕ → List Token → S → Result S

-- 'With `full` off, a paragraph chunk ends the walk of that body'
abbrev pub last : Bool → Chunk → Bool
last full (raw x w) = false
last full paragraph = not full
last full line_break = false

module _ {S : Type 0} where
  -- what is done at a chunk, wherever it begins
  abbrev pub anywhere : (Chunk → S → Result S) → Placed → S → Result S
  anywhere chunk c = chunk c.chunk

  -- the records in order: 'the first of 10 to 13 that the walk meets' is the refusal
  unfoldable pub walk : Turn S → List Token → S → Result S
  walk turn [] s = gives s
  walk turn (t ∷ ts) s = turn t.place t.start t.kind t.body ts s >>= walk turn ts

  -- the chunks of a body in order, each with its place; after the last one 'the rest of it is unread'
  unfoldable pub body : Bool → (Placed → S → Result S) → List Placed → S → Result S
  body full chunk [] s = gives s
  body full chunk (c ∷ cs) s = chunk c s >>= λ s₁. when last full c.chunk then gives s₁ else body full chunk cs s₁
