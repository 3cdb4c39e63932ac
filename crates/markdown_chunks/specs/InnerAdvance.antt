-- What the functions that copy words promise the walk; no rule of 01 stands here.
use Rattle.std.specs.Prelude.{ℕ, ◌+◌, ◌≤◌, ◌≡◌, Bool, true, false, List, length}
use Rattle.base.specs.Result.{Result, ◌>>=◌}
use Rattle.splitter.specs.Split.{Placed}
use Rattle.splitter.specs.Answers.{placed_from, cursor}
use Rattle.splitter.specs.declared.Code.{Code}
use Rattle.splitter.specs.declared.Code.TheVariants as code
use Rattle.room.specs.Lent.{Lent}
use Rattle.renderer.specs.Walk.{anywhere, body}
use Rattle.words.specs.InnerAdvance as words
use Rattle.words.specs.InnerAdvance.{page_of}
use Rattle.html_rules.specs.Markdown.{State, chunk}
use Rattle.html_rules.specs.declared.Markdown.{Markdown}
use Rattle.document.specs.Document.{max_bytes}

-- the chunks of a body from a cursor on, as Markdown writes them
abbrev pub marked_from : Bool → ℕ → List ℕ → ℕ → Code → State → Result State
marked_from full limit x at c = body full (anywhere (chunk limit full)) (placed_from x (cursor at c))

-- the rule for a chunk, by whether all is shown and the room's length
abbrev pub rule_of : Bool → ℕ → Placed → State → Result State
rule_of full limit = anywhere (chunk limit full)

-- the words of a body go out as they stand: outside Mono and code lines, and where none of them is as wide as a code line
pub record Plain (x : List ℕ) (l : Markdown) : Type 0 where
  pub mono : l.mono ≤ 0
  pub fenced : l.fenced ≡ false
  pub few : length x ≤ max_bytes

-- words went on from one place to another
abbrev pub MarkdownAdvance : List ℕ → Lent → ℕ → Lent → ℕ → Type 0
MarkdownAdvance x old at new at' = words.Advance (λ full. full) rule_of (λ _ l. Plain x l) (λ l. l) x old at new at'

-- what a test says: outside Mono, code lines and ticks
pub record Ready (l : Markdown) (c : Code) : Type 0 where
  pub mono : l.mono ≤ 0
  pub fenced : l.fenced ≡ false
  pub outside : c ≡ code.No

abbrev pub Ahead : Markdown → Code → Bool → Type 0
Ahead l c true = Ready l c
Ahead l c false = Unit {0}

-- the chunks from the new place on give what those from the old one did, in a body as short as an accepted document's
pub record Moves (lay : Markdown) (x : List ℕ) (c : Code) (old : Lent) (at : ℕ) (new : Lent) (at' : ℕ) : Type 0 where
  pub name : new.name ≡ old.name
  pub size : new.size ≡ old.size
  pub order : at ≤ at'
  pub within : at ≤ length x + 1 → at' ≤ length x + 1
  pub same : length x ≤ max_bytes → (full : Bool) (kept : List ℕ)
      → (page_of new kept lay >>= marked_from full old.size x at' c) ≡ (page_of old kept lay >>= marked_from full old.size x at c)
