-- What the builder's functions answer, and what they leave in the room, by the rules' result.
use Rattle.std.specs.Prelude.{ℕ, ◌≤◌, ◌≡◌, List, ◌++◌, length, drop, Result as Answer}
use Rattle.base.specs.Result.{Result, gives, refused, measured}
use Rattle.refusal.specs.Answers.{answered}
use Rattle.refusal.specs.declared.Refusal.{Refusal}

-- 'Accepted, only the new records and one lengthened last record differ': the document, and beyond it the room's old bytes; a refused
-- call leaves every byte as it was
abbrev pub kept : List ℕ → Result (List ℕ) → List ℕ
kept room (gives x) = x ++ drop (length x) room
kept room (refused n p) = room

-- a call does what a rule says: it answers the new length, or the refusal's number and place, and leaves what the rule gives in the room
pub record Follows (rule : Result (List ℕ)) (old new : List ℕ) (r : Answer ℕ Refusal) : Type 0 where
  pub answer : answered r ≡ measured rule
  pub room : new ≡ kept old rule

-- a length, or a refusal of 01, whose numbers end at 13
abbrev pub Of01 : Result ℕ → Type 0
Of01 (gives n) = Unit {0}
Of01 (refused k p) = k ≤ 13
