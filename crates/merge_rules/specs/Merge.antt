-- One option list from two products (02, point 14).
use Rattle.std.specs.Prelude.{ℕ, ◌≡◌, Bool, true, false, ◌&&◌, List, [], ◌∷◌, ◌++◌, ltb}
use Rattle.base.specs.Choice.{when◌then◌else◌}
use Rattle.base.specs.Result.{Result, gives, refused, ◌>>=◌}
use Rattle.records.specs.Records.{tokens, document_text, printing_order}
use Rattle.records.specs.Stored.{around}
use Rattle.records.specs.declared.Block.TheVariants as block
use Rattle.document.specs.Document.{open_blocks, check}
use Rattle.buffer.specs.Builder.{fit}
use Rattle.shape.specs.Shape.{Content, parts, inlines, Holds, kinds}
use Rattle.std.specs.declared.cmp.Ordering.{Ordering}
use Rattle.std.specs.declared.cmp.Ordering.TheVariants.{Less, Equal, Greater}

-- 'by the bytes': at the first byte that differs; a text comes before a longer one that starts with it
unfoldable pub compared : List ℕ → List ℕ → Ordering
compared [] [] = Equal
compared [] (y ∷ b) = Less
compared (x ∷ a) [] = Greater
compared (x ∷ a) (y ∷ b) = when ltb x y then Less else when ltb y x then Greater else compared a b

-- an item is a term and a body: the records that each holds, as they are stored
pub record Item : Type 0 where
  pub term : List ℕ
  pub body : List ℕ

-- 'their joined text'
abbrev pub key : Item → List ℕ
key i = document_text i.term

-- 'each item's records'
unfoldable pub records : Item → List ℕ
records i = around block.ItemTerm i.term ++ around block.ItemBody i.body

unfoldable pub all_records : List Item → List ℕ
all_records [] = []
all_records (i ∷ is) = records i ++ all_records is

-- 'a single DefinitionList of term and body pairs .. and nothing else'
unfoldable pub list_of : List Item → List ℕ
list_of is = around block.DefinitionList (all_records is)

-- some bytes are records that 2 to 7 accept by themselves, that leave no block open, and that have the shape of a content
pub record Filled (c : Content) (x : List ℕ) : Type 0 where
  pub whole : open_blocks x ≡ gives []
  pub shape : Holds c (kinds (tokens 0 0 x))

-- 'in house shape': what a term and what a body holds (point 13)
pub record Proper (i : Item) : Type 0 where
  pub term : Filled inlines i.term
  pub body : Filled parts i.body

-- each item of a list
pub data Each (P : Item → Type 0) : List Item → Type 0 where
  none : Each P []
  also : {i : Item} {is : List Item} → P i → Each P is → Each P (i ∷ is)

-- 'Each input is a single DefinitionList of term and body pairs in house shape and nothing else': a side, and its items
pub record Lists (s : List ℕ) (is : List Item) : Type 0 where
  pub bytes : s ≡ list_of is
  pub proper : Each Proper is

-- a side is such a list, of some items
abbrev pub IsList : List ℕ → Type 0
IsList s = (is : List Item) × Lists s is

-- 'terms strictly ascending by the bytes of their joined text'
abbrev pub is_less : Ordering → Bool
is_less Less = true
is_less Equal = false
is_less Greater = false

unfoldable pub ascending : List Item → Bool
ascending [] = true
ascending (i ∷ []) = true
ascending (i ∷ j ∷ is) = is_less (compared (key i) (key j)) && ascending (j ∷ is)

-- the result, by the order of the first terms of both sides
unfoldable pub by : Ordering → List Item → List Item → List Item → List Item
by Less first both second = first
by Equal first both second = both
by Greater first both second = second

-- an item of the first side, and how the items after it merge, with the items of the second: 'where both have a term, the first side's item
-- stands'
unfoldable pub weave : Item → (List Item → List Item) → List Item → List Item
weave i rest [] = i ∷ rest []
weave i rest (j ∷ js) = by (compared (key i) (key j)) (i ∷ rest (j ∷ js)) (i ∷ rest js) (j ∷ weave i rest js)

-- 'The result has every term of either side once, ascending, each item's records unchanged'
unfoldable pub merged : List Item → List Item → List Item
merged [] js = js
merged (i ∷ is) js = weave i (merged is) js

-- 'Printing characters of the result are those of the kept items in that order'
unfoldable pub printed : List Item → List ℕ
printed [] = []
printed (i ∷ is) = printing_order (records i) ++ printed is

-- '23 when its terms don't ascend', of the items of a side
unfoldable pub in_order : List Item → Result (List Item)
in_order is = when ascending is then gives is else refused 23 0

-- of two lists '23 .., likewise' (first side first), 'both with place 0, and last 13 for the result, also when it exceeds 32,768 bytes'
unfoldable pub merging : List ℕ → List Item → List Item → Result (List ℕ)
merging room is js =
    in_order is >>= λ is.
    in_order js >>= λ js.
    fit room (list_of (merged is js))

-- what two sides give in a room
pub data Merges (room s t : List ℕ) : Result (List ℕ) → Type 0 where
  -- 'Refusals 1 to 8 apply to the first side, then the second'
  first-refused : {n p : ℕ} → check s ≡ refused n p → Merges room s t (refused n p)
  second_refused : {n p : ℕ} → check s ≡ gives [] → check t ≡ refused n p → Merges room s t (refused n p)
  -- 'After these comes 22 when a side, the order of its terms aside, isn't such a list, tested on both sides, first side first'
  first-no-list : check s ≡ gives [] → check t ≡ gives [] → (IsList s → ⊥) → Merges room s t (refused 22 0)
  second_no-list : check s ≡ gives [] → check t ≡ gives [] → IsList s → (IsList t → ⊥) → Merges room s t (refused 22 0)
  -- 'then 23 .. and last 13'
  both_lists : {is js : List Item} → check s ≡ gives [] → check t ≡ gives [] → Lists s is → Lists t js → Merges room s t (merging room is js)

-- the answer on two sides: it holds, and no other does
pub record TheMerge (room s t : List ℕ) (r : Result (List ℕ)) : Type 0 where
  pub holds : Merges room s t r
  pub alone : (q : Result (List ℕ)) → Merges room s t q → q ≡ r
