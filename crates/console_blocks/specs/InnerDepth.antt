-- What a block's start and end ask of numbers, and bounds of them afterwards; no rule of 01 stands here.
use Rattle.std.specs.Prelude.{ℕ, ◌+◌, ◌≤◌, ◌<◌, List, length, get_or}
use Rattle.base.specs.Stack.{top}
use Rattle.console_rules.specs.declared.Lay.{Lay}
use Rattle.console_chunks.specs.InnerShown.{Fits64}

-- every margin is at most n
pub record Shallow (n : ℕ) (margins : List ℕ) : Type 0 where
  pub each : (i : ℕ) → get_or margins i 0 ≤ n

-- there is a slot for one margin more, and what a start makes of the numbers is what the code can hold
pub record Startable (slots : ℕ) (margins : List ℕ) (lay : Lay) (tab : ℕ) : Type 0 where
  pub slot : length margins < slots
  pub column : Fits64 (lay.column.0 + 1)
  pub skip : Fits64 (lay.skip + 1)
  pub margin : Fits64 (top margins + (tab + 4))

-- bounds after a block: column and skip counter are at most one past the old ones
pub record Moved (old new : Lay) : Type 0 where
  pub column : new.column.0 ≤ old.column.0 + 1
  pub skip : new.skip ≤ old.skip + 1
