-- The running count of the tabstop, seen as the rules' count; no rule of 01 stands here.
use Rattle.std.specs.Prelude.{ℕ, ◌≤◌, ◌≡◌, false, List, length}
use Rattle.records.specs.Records.{tokens_from}
use Rattle.console_rules.specs.Console as rules
use Rattle.console_tabstop.specs.declared.Terms.{Terms}

abbrev pub terms_of : Terms → rules.Terms
terms_of t = record { widest = t.widest; counting = t.counting; counted = t.counted }

-- Where no term is being counted, the records from one place up to another change no count, and none of them settles the tabstop.
pub record Passed (s : List ℕ) (from to : ℕ) : Type 0 where
  pub counts : (t : rules.Terms) → t.counting ≡ false → rules.terms (tokens_from s from) t ≡ rules.terms (tokens_from s to) t
  pub settled : (t : rules.Terms) → t.counting ≡ false
      → rules.settled_from (length s) (tokens_from s from) t ≡ rules.settled_from (length s) (tokens_from s to) t
  pub order : from ≤ to
  pub near : from ≤ length s → to ≤ length s
