-- What holds of every document that is given for some notes (02, point 11), and of the stretches of a text.
use Rattle.std.specs.Prelude.{ℕ, ◌+◌, ◌-◌, ◌≤◌, max, ◌≡◌, false, List, [], ◌∷◌, length}
use Rattle.std.specs.Bool.{beq}
use Rattle.base.specs.Result.{Result, gives}
use Rattle.white.specs.White.{printing}
use Rattle.records.specs.Records.{Token, tokens, printing_order}
use Rattle.records.specs.declared.Kind.{Kind}
use Rattle.records.specs.declared.Kind.TheVariants as kind
use Rattle.document.specs.Document.{check}
use Rattle.notes_rules.specs.Notes.{Stretch}
use Rattle.notes_rules.specs.Without.{without}

-- how many blocks are open after a record, where n were open before it
abbrev pub open_now : Kind → ℕ → ℕ
open_now (kind.Text s) n = n
open_now (kind.Start b) n = n + 1
open_now (kind.End b) n = n - 1
open_now kind.Unknown n = n

-- the most blocks that are open at once from here on
unfoldable pub deepest : ℕ → List Token → ℕ
deepest n [] = n
deepest n (t ∷ ts) = max n (deepest (open_now t.kind n) ts)

-- A document that is given passes refusals 1 to 8; 'The printing characters of the document must be those of the notes without the markers
-- and paired backticks'; and no block stands in another.
pub record Faithful (notes : List ℕ) (answer : Result (List ℕ)) : Type 0 where
  pub accepted : (document : List ℕ) → answer ≡ gives document → check document ≡ gives []
  pub prints : (document : List ℕ) → answer ≡ gives document → printing_order document ≡ printing (without notes)
  pub shallow : (document : List ℕ) → answer ≡ gives document → deepest 0 (tokens 0 0 document) ≤ 1

-- 'empty stretches give no record, neighbours of one style make one record': no stretch is empty, and neighbours differ in style
pub data Apart : List Stretch → Type 0 where
  none_left : Apart []
  last-left : {x : Stretch} → 1 ≤ length x.body → Apart (x ∷ [])
  and-more : {x y : Stretch} {xs : List Stretch} → 1 ≤ length x.body → beq x.literal y.literal ≡ false → Apart (y ∷ xs) → Apart (x ∷ y ∷ xs)
