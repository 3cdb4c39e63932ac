-- What the functions of the merge promise each other of a side; no rule of 02 stands here.
use Rattle.std.specs.Prelude.{ℕ, ◌+◌, ◌-◌, ◌≤◌, ◌≡◌, Bool, true, false, ◌&&◌, List, [], ◌∷◌, ◌++◌, leb, length, drop}
use Rattle.base.specs.Bytes.{starts_with}
use Rattle.records.specs.declared.Kind.{Kind}
use Rattle.records.specs.declared.Kind.TheVariants as kind
use Rattle.shape.specs.Shape.{inline}
use Rattle.merge_rules.specs.Merge.{Item, records, Proper, Lists, IsList, ascending}
use Rattle.merge_sides.specs.declared.Side.{Side}
use Rattle.merge_sides.specs.declared.Side.TheVariants as side
use Rattle.document.specs.Document.{max_bytes}

-- The bytes that are tested: the start of a term; its end and the start of a body; that one's end

abbrev pub term_start : List ℕ
term_start = 0 ∷ 0 ∷ 0 ∷ 0 ∷ 4 ∷ 1 ∷ []

abbrev pub term_body : List ℕ
term_body = 0 ∷ 0 ∷ 0 ∷ 0 ∷ 4 ∷ 2 ∷ 0 ∷ 0 ∷ 0 ∷ 0 ∷ 5 ∷ 1 ∷ []

abbrev pub end_of_body : List ℕ
end_of_body = 0 ∷ 0 ∷ 0 ∷ 0 ∷ 5 ∷ 2 ∷ []

-- the records around what an item holds stand there
abbrev pub framed : List ℕ → ℕ → ℕ → ℕ → Bool
framed s at stop next =
    leb (at + 6) stop && (leb (stop + 18) next && (starts_with term_start (drop at s)
    && (starts_with term_body (drop stop s) && starts_with end_of_body (drop (next - 6) s))))

-- an item stands at a place, with its term's end and its own end
pub record Stands (s : List ℕ) (at stop next : ℕ) : Type 0 where
  pub item : Item
  pub proper : Proper item
  pub bytes : drop at s ≡ records item ++ drop next s
  pub term-end : stop ≡ at + 6 + length item.term
  pub item_end : next ≡ at + length (records item)

-- a list whose order is asked for, and the answer
pub record Asked (s : List ℕ) : Type 0 where
  pub is : List Item
  pub listed : Lists s is
  pub short : length s ≤ max_bytes

pub record Climbs (s : List ℕ) (r : Bool) : Type 0 where
  pub says : (is : List Item) → Lists s is → r ≡ ascending is

-- an answer on a fact
abbrev pub Tells : Type 0 → Bool → Type 0
Tells P true = P
Tells P false = P → ⊥

-- a document is a list, and this says of it whether its terms ascend
pub record Ascends (s : List ℕ) (r : Bool) : Type 0 where
  pub list : IsList s
  pub ordered : (is : List Item) → Lists s is → r ≡ ascending is

-- what a document is as a side: no list, or a list whose terms do not ascend, or do
abbrev pub SideIs : List ℕ → Side → Type 0
SideIs s side.NotAList = IsList s → ⊥
SideIs s side.NotAscending = Ascends s false
SideIs s side.Ascending = Ascends s true

-- records that may stand in a term, nesting aside
abbrev pub plain : Kind → Bool
plain (kind.Text st) = true
plain (kind.Start b) = inline b
plain (kind.End b) = inline b
plain kind.Unknown = false

unfoldable pub all_plain : List Kind → Bool
all_plain [] = true
all_plain (k ∷ ks) = plain k && all_plain ks
