-- The console's rules with the place of refusal 10 as 01 has it: 'the record', where 02's point 2 has the chunk. What moved with that point, and
-- what stayed, is said in these words by the law `only_places_moved`.
use Rattle.std.specs.Prelude.{ℕ, ◌+◌, ◌≤◌, ◌≡◌, List, ◌∷◌, length}
use Rattle.base.specs.Choice.{when◌then◌else◌}
use Rattle.base.specs.Stack.{top}
use Rattle.base.specs.Result.{Result, gives, refused, ◌>>=◌}
use Rattle.records.specs.Records.{Token, tokens}
use Rattle.records.specs.declared.Kind.TheVariants as kind
use Rattle.document.specs.Document.{check, short}
use Rattle.splitter.specs.Split.{split}
use Rattle.renderer.specs.Walk.{Turn, anywhere, walk, body}
use Rattle.skip.specs.Counter.{hides}
use Rattle.console_rules.specs.Console.{State, initial, chunk, turn, tabstop, finish, narrow}
use Rattle.console_rules.specs.declared.Settings.{Settings}

module _ (measure : List ℕ → ℕ) (set : Settings) (room : ℕ) where
  -- every chunk of a text record stands at the record's place
  unfoldable pub record_turn : ℕ → Turn State
  record_turn tab p q (kind.Text st) x ts s =
      when hides s.lay.skip then gives s else body set.full (anywhere (chunk measure set room (top s.kept) p)) (split x) s
  record_turn tab p q (kind.Start b) x ts s = turn measure set room tab p q (kind.Start b) x ts s
  record_turn tab p q (kind.End b) x ts s = turn measure set room tab p q (kind.End b) x ts s
  record_turn tab p q kind.Unknown x ts s = turn measure set room tab p q kind.Unknown x ts s

  unfoldable pub record_console : List ℕ → Result (List ℕ)
  record_console s =
      short s >>= λ _.
      narrow set.width >>= λ _.
      check s >>= λ _.
      walk (record_turn (tabstop (tokens 0 0 s))) (tokens 0 0 s) initial >>= finish room >>= λ t. gives t.out

-- a record is among some
pub data Among (t : Token) : List Token → Type 0 where
  here : {ts : List Token} → Among t (t ∷ ts)
  further : {u : Token} {ts : List Token} → Among t ts → Among t (u ∷ ts)

-- a place in the body of one of some records, or at its end, and the place of that record
pub record InBody (ts : List Token) (place recordPlace : ℕ) : Type 0 where
  pub token : Token
  pub among : Among token ts
  pub record_place : recordPlace ≡ token.place
  pub begins : token.start ≤ place
  pub ends : place ≤ token.start + length token.body

-- the same answer; or both are refusal 10, and their places are related
pub data SameBut10 {A : Type 0} (P : ℕ → ℕ → Type 0) : Result A → Result A → Type 0 where
  same : {r : Result A} → SameBut10 P r r
  both10 : {p q : ℕ} → P p q → SameBut10 P (refused 10 p) (refused 10 q)
