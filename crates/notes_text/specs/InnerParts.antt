-- What the functions inside this crate promise each other; no rule of 02 stands here.
use Rattle.std.specs.Prelude.{ℕ, ◌+◌, ◌≤◌, ◌≡◌, Bool, false, List, [], ◌∷◌, ◌++◌, ltb, length, take, drop}
use Rattle.std.specs.Bool.{beq}
use Rattle.base.specs.Choice.{when◌then◌else◌}
use Rattle.records.specs.Records.{number}
use Rattle.records.specs.Stored.{head}
use Rattle.notes_rules.specs.Notes.{Styled, styled, ticked, style_of}
use Rattle.notes_text.specs.declared.Run.{Run}

-- no backtick stands in the first r bytes, and one does stand in all if r is not all
pub record Tick (s : List ℕ) (r : ℕ) : Type 0 where
  pub inside : r ≤ length s
  pub none : ticked (take r s) ≡ false
  pub more : ltb r (length s) ≡ ticked s

-- no backtick stands from the byte at r on
pub record Free (s : List ℕ) (r : ℕ) : Type 0 where
  pub inside : r ≤ length s
  pub none : ticked (drop r s) ≡ false

-- r bytes stand behind the last backtick, or, where there is none, r are all: one stands in the last bytes if those are more than r
pub record Last (s : List ℕ) (r : ℕ) : Type 0 where
  pub each : (n : ℕ) → ltb r (length (drop n s)) ≡ ticked (drop n s)

-- the bytes of one style that stand first, and the others
unfoldable pub lead : Bool → List Styled → List ℕ
lead l [] = []
lead l (m ∷ ms) = when beq l m.literal then m.byte ∷ lead l ms else []

unfoldable pub behind : Bool → List Styled → List Styled
behind l [] = []
behind l (m ∷ ms) = when beq l m.literal then behind l ms else m ∷ ms

-- the bytes of one style that stand first, where a pair is open if that style is Literal, were passed over: the others follow
pub record Runs (s : List ℕ) (within : Bool) (r : Run) : Type 0 where
  pub rest : styled r.within r.rest.now ≡ behind within (styled within s)
  pub moved : length r.rest.now + length (lead within (styled within s)) ≤ length s

-- of what is left of a text s, x: what is Last of s is Last of x too (a last backtick that is in x stays the last one)
abbrev pub KeepsLast : List ℕ → List ℕ → Type 0
KeepsLast s x = (n : ℕ) → Last s n → Last x n

-- the record of some bytes in the style of a stretch
abbrev pub run_record : Bool → List ℕ → List ℕ
run_record l x = head (length x) (number (style_of l)) ++ x
