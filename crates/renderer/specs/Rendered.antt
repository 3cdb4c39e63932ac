-- What a renderer answers, and what its room then holds, seen as the rules' text or refusal.
use Rattle.std.specs.Prelude.{ℕ, ◌≤◌, List, take, replicate, Result as Answer, Ok, Err}
use Rattle.base.specs.Result.{Result, gives, refused}
use Rattle.refusal.specs.Numbers.{refusal_number, refusal_place}
use Rattle.room.specs.Room.{padded}
use Rattle.refusal.specs.declared.Refusal.{Refusal}

-- the text that stands in a room for an answer, the length of a text or a refusal
abbrev pub standing : List ℕ → Answer ℕ Refusal → Result (List ℕ)
standing room (Ok n) = gives (take n room)
standing room (Err a) = refused (refusal_number a) (refusal_place a)

-- the length that is answered is at most the room's
abbrev pub Inside : ℕ → Answer ℕ Refusal → Type 0
Inside room (Ok n) = n ≤ room
Inside room (Err a) = Unit {0}

-- 'a room is 0 beyond what was written, and all 0 after a refusal'
abbrev pub filled : ℕ → Result (List ℕ) → List ℕ
filled room (gives x) = padded room x
filled room (refused n p) = replicate room 0

-- a refusal, as a rule gives it
abbrev pub refusal_of : Refusal → Result (List ℕ)
refusal_of a = refused (refusal_number a) (refusal_place a)
