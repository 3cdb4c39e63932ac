-- Where a text record stands, by the records before it (02, point 8): 'outside headings', 'outside an ItemTerm', or 'inside one, before any inner
-- term or body has ended'.
use Rattle.std.specs.Prelude.{ℕ, ◌+◌, ◌-◌, ◌≡◌, Bool, true, false, ◌||◌, List, [], ◌∷◌, ◌++◌, eqb, leb}
use Rattle.base.specs.Choice.{when◌then◌else◌}
use Rattle.records.specs.Records.{Token, index, is_start, is_end}
use Rattle.records.specs.declared.Kind.{Kind}
use Rattle.records.specs.declared.Kind.TheVariants as kind

-- what some records make of a number or a test that each of them may change
unfoldable pub since : {A : Type 0} → (Kind → A → A) → List Token → A → A
since change [] a = a
since change (t ∷ ts) a = since change ts (change t.kind a)

-- How many blocks of some indices are open

-- a start opens one more, an end closes one: in a document that is not refused, the innermost
unfoldable pub counted : (ℕ → Bool) → Kind → ℕ → ℕ
counted these (kind.Text st) n = n
counted these (kind.Start b) n = when these (index b) then n + 1 else n
counted these (kind.End b) n = when these (index b) then n - 1 else n
counted these kind.Unknown n = n

abbrev pub is_term : ℕ → Bool
is_term i = eqb i 4

-- Header and the three sections
abbrev pub is_heading : ℕ → Bool
is_heading i = leb i 3

-- 'outside an ItemTerm': none is open
abbrev pub OutsideTerm : List Token → Type 0
OutsideTerm before = since (counted is_term) before 0 ≡ 0

-- 'outside headings': none is open
abbrev pub OutsideHeading : List Token → Type 0
OutsideHeading before = since (counted is_heading) before 0 ≡ 0

-- Captured text

-- whether text is captured after a record: 'An inner heading's end also ends capture for the outer' (01)
unfoldable pub captures : Kind → Bool → Bool
captures (kind.Text st) on = on
captures (kind.Start b) on = when is_heading (index b) then true else on
captures (kind.End b) on = when is_heading (index b) then false else on
captures kind.Unknown on = on

-- text after these records is no part of a heading; so outside headings, and in an outer heading after the end of an inner one
abbrev pub Uncaptured : List Token → Type 0
Uncaptured before = since captures before false ≡ false

-- Inside an ItemTerm

-- the end of an ItemTerm, or of an ItemBody
abbrev pub ends_item : Kind → Bool
ends_item k = is_end 4 k || is_end 5 k

unfoldable pub any_ends : List Token → Bool
any_ends [] = false
any_ends (t ∷ ts) = ends_item t.kind || any_ends ts

-- 'inside one, before any inner term or body has ended': an ItemTerm started, and since then no ItemTerm or ItemBody has ended, neither that one nor
-- one inside it.
pub record Inside (before : List Token) : Type 0 where
  pub outer : List Token
  pub term : Token
  pub inner : List Token
  pub parts : before ≡ outer ++ term ∷ inner
  pub starts : is_start 4 term.kind ≡ true
  pub unended : any_ends inner ≡ false

-- the same as a test, record by record (claimed in `Places`, Claims.antt)
unfoldable pub strips : Kind → Bool → Bool
strips k on = when is_start 4 k then true else when ends_item k then false else on

abbrev pub is_inside : List Token → Bool
is_inside before = since strips before false
