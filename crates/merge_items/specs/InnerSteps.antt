-- What the functions of the merge promise each other of items; no rule of 02 stands here.
use Rattle.std.specs.Prelude.{ℕ, ◌+◌, ◌≤◌, ◌≡◌, List, [], ◌∷◌, ◌++◌, ltb, length, drop, Option, Some, None}
use Rattle.std.specs.Borrow.{GName}
use Rattle.base.specs.Choice.{when◌then◌else◌}
use Rattle.records.specs.Records.{Token, tokens_from}
use Rattle.room.specs.Room.{seen, extended}
use Rattle.merge_rules.specs.Merge.{Item, key, records, Proper}
use Rattle.merge_items.specs.declared.Place.{Place}
use Rattle.merge_items.specs.declared.Items.{Items}
use Rattle.merge_rules.specs.InnerEnds.{end_of}

-- the bodies of the records that start before a place
unfoldable pub text_to : ℕ → List Token → List ℕ
text_to stop [] = []
text_to stop (t ∷ ts) = when ltb t.place stop then t.body ++ text_to stop ts else []

-- a block's end was looked for by the records from a place on: none is said where the rule has 0
abbrev pub Closes : List ℕ → ℕ → Option ℕ → Type 0
Closes s from None = end_of (tokens_from s from) 0 ≡ 0
Closes s from (Some p) = (p ≡ end_of (tokens_from s from) 0) × (p ≤ length s)

-- the places of an item from a place on
abbrev pub place_of : Item → ℕ → Place
place_of i at = record { stop = at + 6 + length i.term; next = at + length (records i) }

-- a place lies in a document, and so does the term's end that was found from it on
abbrev pub Within : List ℕ → ℕ → Option Place → Type 0
Within s at None = Unit {0}
Within s at (Some p) = (at ≤ length s) × (p.stop ≤ length s)

-- an item was looked for at a place of a document: if one stands there, where its term ends, and where it ends
pub record Found (s : List ℕ) (at : ℕ) (r : Option Place) : Type 0 where
  pub item : (i : Item) (w : List ℕ) → Proper i → drop at s ≡ records i ++ w → r ≡ Some (place_of i at)
  pub inside : Within s at r

-- the same by where it ends, and its term's text was written into a key
pub record Keyed (s : List ℕ) (at next : ℕ) (text : List ℕ) (len : ℕ) : Type 0 where
  pub item : (i : Item) (w : List ℕ) → Proper i → drop at s ≡ records i ++ w
      → (next ≡ at + length (records i)) × (seen text len ≡ extended (length text) (key i) [])

-- the first item of a list was read, if one stands there, into a key in a room of that name and size
pub record Begun (s : List ℕ) (n : GName) (k : ℕ) (r : Items) : Type 0 where
  pub document : r.document.now ≡ s
  pub at : r.at ≡ 6
  pub keyed : Keyed s r.at r.next r.key.room.now r.key.len
  pub name : r.key.room.ghost_name ≡ n
  pub size : length r.key.room.now ≡ k

-- the same at a place, of the document and with the key that there are
pub record Read (p : ℕ) (old new : Items) : Type 0 where
  pub document : new.document ≡ old.document
  pub at : new.at ≡ p
  pub keyed : Keyed new.document.now new.at new.next new.key.room.now new.key.len
  pub name : new.key.room.ghost_name ≡ old.key.room.ghost_name
  pub size : length new.key.room.now ≡ length old.key.room.now
