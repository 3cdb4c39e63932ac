-- What the walk of a document answers, seen as the rules' text; and demand 3 of what a room holds.
use Rattle.std.specs.Prelude.{ℕ, ◌≡◌, Bool, true, List, length, take, Result as Answer}
use Rattle.base.specs.Result.{Result, gives}
use Rattle.utf8.specs.Utf8.{utf8}
use Rattle.white.specs.White.{printing}
use Rattle.records.specs.Records.{printing_order}
use Rattle.renderer.specs.Rendered.{standing, Inside}
use Rattle.refusal.specs.declared.Refusal.{Refusal}
use Rattle.console_rules.specs.Console.{console}
use Rattle.console_rules.specs.declared.Settings.{Settings}
use Rattle.console_rules.specs.declared.Measure.TheVariants as measure

-- `Doc::monochrome` 'only fixes the width at 100'; it counts bytes
abbrev pub wide : Bool → Settings
wide x = record { width = 100; full = x; measure = measure.Bytes }

-- An answer stands for a text in a room: the text, or the refusal; and the text lies in the room.
pub record Stands (room : List ℕ) (answer : Answer ℕ Refusal) (text : Result (List ℕ)) : Type 0 where
  pub same : standing room answer ≡ text
  pub fits : Inside (length room) answer

-- 01: 'Demand 3 is one claim about the whole text ..: with `full` on, where these rules refuse nothing, the room's bytes up to the length
-- are the text that the console rules write, and the printing characters of that text equal the document's printing order.' The text is
-- UTF-8, so that it has characters.
pub record Demand3 (set : Settings) (document before after : List ℕ) (answer : Result ℕ) : Type 0 where
  pub printed : set.full ≡ true → (text : List ℕ) → console set (length before) document ≡ gives text
      → (n : ℕ) × (answer ≡ gives n) × (take n after ≡ text) × (utf8 text ≡ true) × (printing (take n after) ≡ printing_order document)
