-- Where the next end of a Section4 stands, for every start before it; no rule of 01 stands here.
use Rattle.std.specs.Prelude.{ℕ, ◌<◌, ◌≡◌, List, [], ◌∷◌, length}
use Rattle.base.specs.Choice.{when◌then◌else◌}
use Rattle.records.specs.Records.{Token, tokens_from, is_end}
use Rattle.console_rules.specs.Console.{empty_block, gap_ahead}

-- where the first of some records of a document of n bytes starts
unfoldable pub place_of : ℕ → List Token → ℕ
place_of n [] = n
place_of n (t ∷ ts) = t.place

-- where those after the first end of a Section4 do
unfoldable pub after_end : ℕ → List Token → ℕ
after_end n [] = n
after_end n (t ∷ ts) = when is_end 3 t.kind then place_of n ts else after_end n ts

-- Seen from a place, the records after the next end of a Section4 begin at e, and an empty Block there is the gap ahead.
pub record Ahead (s : List ℕ) (at e : ℕ) : Type 0 where
  pub place : after_end (length s) (tokens_from s at) ≡ e
  pub gap : gap_ahead (tokens_from s at) ≡ empty_block (tokens_from s e)

-- e was found at a place before this one, and has not been passed since
abbrev pub Known : List ℕ → ℕ → ℕ → Type 0
Known s at e = at < e → Ahead s at e
