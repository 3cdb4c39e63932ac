-- What the functions of this crate promise each other and the console's walk; no rule of 01 stands here.
use Rattle.std.specs.Prelude.{ℕ, ◌+◌, ◌-◌, ◌≤◌, ◌<◌, ◌≡◌, Bool, true, false, List, length}
use Rattle.base.specs.Result.{Result, gives}
use Rattle.room.specs.Lent.{Given, Lent}
use Rattle.splitter.specs.Split.{Placed}
use Rattle.splitter.specs.Answers.{placed_from, cursor}
use Rattle.splitter.specs.declared.Code.{Code}
use Rattle.splitter.specs.declared.Code.TheVariants as code
use Rattle.renderer.specs.Walk.{body}
use Rattle.words.specs.InnerAdvance as words
use Rattle.console_rules.specs.Console.{State, with_column, measure_of, body_chunk}
use Rattle.console_rules.specs.declared.Settings.{Settings}
use Rattle.console_rules.specs.declared.Lay.{Lay}
use Rattle.console_chunks.specs.InnerShown.{text_in, page_of, ruled}
use Rattle.console_chunks.specs.declared.Page.{Page}

-- the chunks of a body that starts at a place, from a cursor on, as the console writes them
abbrev pub console_from : Settings → ℕ → ℕ → ℕ → List ℕ → ℕ → Code → State → Result State
console_from set limit margin start x at c = body set.full (body_chunk (measure_of set) set limit margin start) (placed_from x (cursor at c))

-- nothing is due, and no column is missing to the margin
pub record Quiet (margin : ℕ) (l : Lay) : Type 0 where
  pub newline : l.newline ≡ false
  pub blank : l.blank ≡ false
  pub gutter : l.gutter ≡ false
  pub reached : margin ≤ l.column.0

-- what a chunk is written by, beside the settings: the margin, and where its body starts
pub record Task : Type 0 where
  pub margin : ℕ
  pub start : ℕ

abbrev pub full_of : Settings → Task → Bool
full_of set t = set.full

abbrev pub rule_of : Settings → Task → ℕ → Placed → State → Result State
rule_of set t limit = body_chunk (measure_of set) set limit t.margin t.start

-- nothing is due, and this is the column
pub record Plain (col : ℕ) (t : Task) (l : Lay) : Type 0 where
  pub quiet : Quiet t.margin l
  pub here : l.column.0 ≡ col

-- something stands in a room
pub record Some (v : Lent) : Type 0 where
  pub inside : Given v.shown
  pub some : (o : List ℕ) → v.shown ≡ gives o → 0 < length o

-- Words went on from one place to another, and the column with them.
pub record LineAdvance (set : Settings) (x : List ℕ) (old : Lent) (col at : ℕ) (new : Lent) (col' at' : ℕ) : Type 0 where
  pub there : Some new
  pub grows : col ≤ col'
  pub near : col' ≤ col + (at' - at)
  pub words : words.Advance (full_of set) (rule_of set) (Plain col) (with_column col') x old at new at'

-- a word would follow at once
pub record Ready (p : Page) (margin : ℕ) (c : Code) : Type 0 where
  pub there : Some (text_in p)
  pub quiet : Quiet margin p.lay
  pub outside : c ≡ code.No

abbrev pub Ahead : Page → ℕ → Code → Bool → Type 0
Ahead p margin c true = Ready p margin c
Ahead p margin c false = Unit {0}

-- The chunks from the new place on give what those from the old one did; the column went on by as much as the place at most.
pub record Moves (set : Settings) (margin : ℕ) (x : List ℕ) (c : Code) (old : Page) (at : ℕ) (new : Page) (at' : ℕ) : Type 0 where
  pub order : at ≤ at'
  pub within : at ≤ length x + 1 → at' ≤ length x + 1
  pub near : new.lay.column.0 ≤ old.lay.column.0 + (at' - at)
  pub skip : new.lay.skip ≡ old.lay.skip
  pub same : (start : ℕ) (kept : List ℕ)
      → ruled (λ n. console_from set n margin start x at' c) (page_of new kept) ≡ ruled (λ n. console_from set n margin start x at c) (page_of old kept)
