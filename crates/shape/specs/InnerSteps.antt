-- What the functions inside this crate promise each other; no rule of 02 stands here. Records are taken one at a time: what may stand
-- next, and for each open block what may stand after it.
use Rattle.std.specs.Prelude.{ℕ, ◌+◌, ◌-◌, ◌≤◌, ◌≡◌, Bool, true, false, List, [], ◌∷◌, length, Option, None, Some, Result as Answer, Ok, Err}
use Rattle.base.specs.Choice.{when◌then◌else◌}
use Rattle.records.specs.Records.{Token}
use Rattle.records.specs.declared.Block.{Block}
use Rattle.records.specs.declared.Block.TheVariants as block
use Rattle.records.specs.declared.Kind.{Kind}
use Rattle.records.specs.declared.Kind.TheVariants as kind
use Rattle.document.specs.Document.{max_open}
use Rattle.shape.specs.Shape.{same, other, inline}
use Rattle.shape.specs.declared.OutOfPlace.{OutOfPlace}

-- what may stand next: parts, pairs, what a term holds, or a body after its term
pub data Want : Type 0 where
  parts : Want
  pairs : Want
  inlines : Want
  body : Want

-- what a block holds and what may stand after it, if it may stand here
pub data Inside : Type 0 where
  opens : Want → Want → Inside
  refuses : Inside

unfoldable pub inside : Want → Block → Inside
inside parts b = when other b then opens parts parts else when same b block.DefinitionList then opens pairs parts else refuses
inside pairs b = when same b block.ItemTerm then opens inlines body else refuses
inside inlines b = when inline b then opens inlines inlines else refuses
inside body b = when same b block.ItemBody then opens parts pairs else refuses

-- text may stand here
abbrev pub texts : Want → Bool
texts parts = true
texts pairs = false
texts inlines = true
texts body = false

-- the block around may end here
abbrev pub closes : Want → Bool
closes parts = true
closes pairs = true
closes inlines = true
closes body = false

-- what is wanted after a record, and for each open block after it, the innermost first
pub data Next : Type 0 where
  on : Want → List Want → Next
  out : Next

unfoldable pub entered : Inside → List Want → Next
entered (opens v u) later = on v (u ∷ later)
entered refuses later = out

unfoldable pub left : List Want → Next
left [] = out
left (u ∷ later) = on u later

-- a record; which block an end record ends is not asked
unfoldable pub step : Kind → Want → List Want → Next
step (kind.Text st) w later = when texts w then on w later else out
step (kind.Start b) w later = entered (inside w b) later
step (kind.End b) w later = when closes w then left later else out
step kind.Unknown w later = out

unfoldable pub go : ℕ → Next → (Want → List Want → Option ℕ) → Option ℕ
go p (on w later) f = f w later
go p out f = Some p

-- the place of the first record that may not stand where it does
unfoldable pub stray : List Token → Want → List Want → Option ℕ
stray [] w later = None
stray (t ∷ ts) w later = go t.place (step t.kind w later) (stray ts)

-- how many blocks are open before some records that end them all
abbrev pub before : Kind → ℕ → ℕ
before (kind.Text st) n = n
before (kind.Start b) n = n - 1
before (kind.End b) n = n + 1
before kind.Unknown n = n

unfoldable pub depth : List Token → ℕ
depth [] = 0
depth (t ∷ ts) = before t.kind (depth ts)

-- they end each block that they start, and at most 32 are open
unfoldable pub Balanced : List Token → Type 0
Balanced [] = Unit {0}
Balanced (t ∷ ts) = ((b : Block) → t.kind ≡ kind.Start b → (1 ≤ depth ts) × (depth ts ≤ max_open)) × Balanced ts

-- A run was gone through, from some records up to others. In a block it stops after that block's end record, from where on what may stand
-- after the block is wanted. With no block around, nothing in it is out of place.
pub record Stopped (w : Want) (from to : List Token) : Type 0 where
  pub fewer : length to ≤ length from
  pub closed : 1 ≤ depth from
      → ((u : Want) (later : List Want) → stray from w (u ∷ later) ≡ stray to u later) × (depth from ≡ depth to + 1) × Balanced to
  pub whole : depth from ≡ 0 → (later : List Want) → stray from w later ≡ None

-- a run from some records on: where it stops, or what is out of place in it
abbrev pub Walked : Want → List Token → List Token → Answer Unit OutOfPlace → Type 0
Walked w from to (Ok u) = Stopped w from to
Walked w from to (Err o) = (later : List Want) → stray from w later ≡ Some o.place
