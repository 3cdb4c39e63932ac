-- What the functions inside this crate promise each other; no rule of 02 stands here.
use Rattle.std.specs.Prelude.{ℕ, ◌≤◌, ◌≡◌, true, List, [], length, Result as Returned, Ok, Err}
use Rattle.base.specs.Result.{gives, refused}
use Rattle.document.specs.Document.{check, max_bytes}
use Rattle.refusal.specs.declared.Refusal.{Refusal}
use Rattle.refusal.specs.Numbers.{refusal_number, refusal_place}
use Rattle.room.specs.Room.{extended, seen}
use Rattle.room.specs.Lent.{Lent, with_bytes}
use Rattle.merge_rules.specs.Merge.{Item, list_of, Lists, ascending, merged, Merges}

-- two sides that are lists
pub record Sides (s t : List ℕ) : Type 0 where
  pub is : List Item
  pub js : List Item
  pub first : Lists s is
  pub second : Lists t js
  pub short : length s ≤ max_bytes
  pub also-short : length t ≤ max_bytes

-- the merged list was written after what stood there
pub record Added (s t : List ℕ) (old new : Lent) : Type 0 where
  pub writes : (is js : List Item) → Lists s is → Lists t js → new ≡ with_bytes (list_of (merged is js)) old

-- the merged list was written into a room, up to a length
pub record Written (s t old new : List ℕ) (len : ℕ) : Type 0 where
  pub writes : (is js : List Item) → Lists s is → Lists t js → seen new len ≡ extended (length old) (list_of (merged is js)) []

-- two sides that 1 to 8 accept, and that are lists whose terms ascend
pub record Accepted (s t : List ℕ) : Type 0 where
  pub sides : Sides s t
  pub first : check s ≡ gives []
  pub second : check t ≡ gives []
  pub first_up : ascending sides.is ≡ true
  pub second_up : ascending sides.js ≡ true

-- refusals 1 to 8, 22 and 23 of two sides, whatever the room
abbrev pub Sound : List ℕ → List ℕ → Returned (Unit {0}) Refusal → Type 0
Sound s t (Ok u) = Accepted s t
Sound s t (Err a) = (room : List ℕ) → Merges room s t (refused (refusal_number a) (refusal_place a))
