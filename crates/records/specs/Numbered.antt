-- Styles and blocks by their numbers.
use Rattle.std.specs.Prelude.{ℕ, ◌≡◌, ◌≤◌, ◌<◌, Result, MatchResult}
use Rattle.records.specs.Records.{number, index}
use Rattle.records.specs.declared.Style.{Style}
use Rattle.records.specs.declared.Block.{Block}
use Rattle.records.specs.declared.UnknownNumber.{UnknownNumber}

-- the style whose text has a kind, or a kind, which is none of 1 to 5
abbrev pub StyleNumbered : ℕ → Result Style UnknownNumber → Type 0
StyleNumbered k r = MatchResult r (λ s. number s ≡ k) (λ e. (e.number ≡ k) × (1 ≤ k → 5 < k))

-- the block with an index, or an index, which is none of 0 to 11
abbrev pub BlockNumbered : ℕ → Result Block UnknownNumber → Type 0
BlockNumbered i r = MatchResult r (λ b. index b ≡ i) (λ e. (e.number ≡ i) × (11 < i))
