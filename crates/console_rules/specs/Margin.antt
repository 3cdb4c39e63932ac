-- When refusal 10 is given, whatever a chunk counts for in the fold test: 'a chunk to be printed misses more than 50 columns to its margin'. The law
-- `margin_refusal` says that the console gives it in these cases, at these places, and in no other.
use Rattle.std.specs.Prelude.{ℕ, ◌+◌, ◌≤◌, ◌≡◌, Bool, true, false, List, [], ◌∷◌, ltb}
use Rattle.base.specs.Choice.{when◌then◌else◌}
use Rattle.base.specs.Stack.{top}
use Rattle.base.specs.Result.{Result, gives, ◌>>=◌}
use Rattle.white.specs.White.{trim}
use Rattle.records.specs.Records.{Token, tokens}
use Rattle.records.specs.declared.Style.{Style}
use Rattle.records.specs.declared.Kind.TheVariants as kind
use Rattle.document.specs.Document.{check}
use Rattle.splitter.specs.Split.{raw, is_space, Placed, split}
use Rattle.renderer.specs.Walk.{with_out, empty, last}
use Rattle.skip.specs.Counter.{hides}
use Rattle.console_rules.specs.Console.{State, initial, folds, line_end, due_line, due_blank, missing, body_chunk, turn, tabstop, max_missing, max_width}
use Rattle.console_rules.specs.declared.Settings.{Settings}

-- A text chunk when its turn comes: it is to be printed on a page, before any of its padding is written; or a fold has dropped it.
pub data Ready : Type 0 where
  printed : State → Ready
  dropped : State → Ready

-- it misses more than 50 columns to its margin
unfoldable pub too_far : ℕ → ℕ → Ready → Bool
too_far room margin (printed s) = ltb max_missing (missing room margin s)
too_far room margin (dropped s) = false

module _ (measure : List ℕ → ℕ) (set : Settings) (room : ℕ) where
  -- what is written before a text chunk's padding: line ends that are due, and the line end of a fold
  unfoldable pub ready : List ℕ → State → Result Ready
  ready x s =
      when empty s.out then gives (printed s) else
      (due_line room s >>= λ s₁.
      due_blank room s₁ >>= λ s₂.
      when folds set.width s₂.lay.column (record { 0 = measure x })
      then (line_end room (with_out (trim s₂.out) s₂) >>= λ s₃. gives (when is_space x then dropped s₃ else printed s₃))
      else gives (printed s₂))

  -- Among the chunks of a body that starts at a place, at a margin, one misses too many columns when its turn comes, after those before it were
  -- written; `place` is that chunk's in the document.
  pub data FarChunk (margin start place : ℕ) : List Placed → State → Type 0 where
    here : {c : Placed} {cs : List Placed} {s : State} {x : List ℕ} {w : ℕ} {r : Ready} → c.chunk ≡ raw x w → ready x s ≡ gives r
        → too_far room margin r ≡ true → place ≡ start + c.place → FarChunk margin start place (c ∷ cs) s
    later : {c : Placed} {cs : List Placed} {s t : State} → body_chunk measure set room margin start c s ≡ gives t → last set.full c.chunk ≡ false
        → FarChunk margin start place cs t → FarChunk margin start place (c ∷ cs) s

  -- Among some records, a text that is not skipped has such a chunk at the current margin, after the records before it were rendered.
  pub data FarRecord (tab place : ℕ) : List Token → State → Type 0 where
    here : {t : Token} {ts : List Token} {s : State} {st : Style} → t.kind ≡ kind.Text st → hides s.lay.skip ≡ false
        → FarChunk (top s.kept) t.start place (split t.body) s → FarRecord tab place (t ∷ ts) s
    later : {t : Token} {ts : List Token} {s u : State} → turn measure set room tab t.place t.start t.kind t.body ts s ≡ gives u
        → FarRecord tab place ts u → FarRecord tab place (t ∷ ts) s

  -- an accepted document, at an accepted width, has such a record
  pub record Far (document : List ℕ) (place : ℕ) : Type 0 where
    pub accepted : check document ≡ gives []
    pub narrow : set.width ≤ max_width
    pub met : FarRecord (tabstop (tokens 0 0 document)) place (tokens 0 0 document) initial
