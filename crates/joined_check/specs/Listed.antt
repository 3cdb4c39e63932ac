-- The records of a joined form, as the iterator gives them.
use Rattle.std.specs.Prelude.{ℕ, ◌+◌, ◌≡◌, List, Option, MatchOption}
use Rattle.std.specs.Iterator.{YieldsFirstBy}
use Rattle.joined_rules.specs.Joined.{heads_from}
use Rattle.joined_check.specs.declared.Share.{Share}
use Rattle.joined_check.specs.declared.Shares.{Shares}

-- the first bytes of the records that are left
abbrev pub left : Shares → List (List ℕ)
left s = heads_from s.joined.now s.at

-- a call gave the first record that was left, which stands where they begin, and left the others, which begin six bytes on; or none was left, and the
-- place stays
abbrev pub GivesShare : Shares → Option Share → Shares → Type 0
GivesShare s r t = YieldsFirstBy (λ x. x.head.now) left s r t × MatchOption r (t.at ≡ s.at) (λ x. (x.place ≡ s.at) × (t.at ≡ s.at + 6))
