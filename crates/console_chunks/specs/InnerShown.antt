-- What the code holds, seen as the rules' state, and bounds of it; no rule of 01 stands here.
use Rattle.std.specs.Prelude.{ℕ, ◌+◌, ◌^◌, ◌<◌, ◌≤◌, max, List, Result as Answer, Ok, Err}
use Rattle.std.specs.Borrow.{GName}
use Rattle.base.specs.Result.{Result, gives, refused, ◌>>=◌}
use Rattle.refusal.specs.Numbers.{refusal_number, refusal_place}
use Rattle.refusal.specs.declared.Refusal.{Refusal}
use Rattle.room.specs.Lent.{Lent, lent}
use Rattle.renderer.specs.Walk.{page}
use Rattle.console_rules.specs.Console.{State}
use Rattle.console_rules.specs.declared.Lay.{Lay}
use Rattle.console_chunks.specs.declared.Page.{Page}

-- a page in a lent room: the loan's name, the room's size, and the rules' state, or its refusal
pub record Sheet : Type 0 where
  pub name : GName
  pub size : ℕ
  pub state : Result State

-- a text, with the margins and what else is kept beside it
abbrev pub sheet : Lent → List ℕ → Lay → Sheet
sheet v kept lay = record { name = v.name; size = v.size; state = v.shown >>= λ o. gives (page kept lay o) }

-- the text of a page
abbrev pub text_in : Page → Lent
text_in p = lent p.room.ghost_name p.room.now p.len.0

abbrev pub page_of : Page → List ℕ → Sheet
page_of p kept = sheet (text_in p) kept p.lay

-- a rule for the state, by the room's size
abbrev pub ruled : (ℕ → State → Result State) → Sheet → Sheet
ruled rule p = record p { state = p.state >>= rule p.size }

-- where a refusal may have been met
abbrev pub after : {A : Type 0} → Answer A Refusal → Sheet → Sheet
after (Ok u) p = p
after (Err a) p = record p { state = refused (refusal_number a) (refusal_place a) }

-- a number that the code can hold
abbrev pub Fits64 : ℕ → Type 0
Fits64 n = n < 2 ^ 64

-- Bounds that hold even once the room is too small, where the equations say nothing of the lay: the column is not past the old one by
-- more than some columns, and the skip counter is at most the old one or 1.
abbrev pub Near : ℕ → Lay → Lay → Type 0
Near n old new = (new.column.0 ≤ old.column.0 + n) × (new.skip ≤ max old.skip 1)
