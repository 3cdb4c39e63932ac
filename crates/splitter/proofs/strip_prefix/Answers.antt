use Rattle.splitter.proofs.Names.{◌≡◌, sym, ◌∙◌, ◌+◌, ℕ, true, false, List, Option, Some, None, eqb, length, take, drop, stripped}
use Rattle.splitter.proofs.Stripped.{heads_equal, stripped_there, stripped-not}
use Rattle.splitter.proofs.strip_prefix.Goals as goal
use Rattle.std.specs.Option.{MatchOption, unwrap_or}
use denote.Bor.{Bor}
use lib.Pointwise.{pointwise}

or_all : (prefix : List ℕ) (text : Bor (List ℕ)) (r : Option (Bor (List ℕ)))
    → MatchOption r (pointwise eqb (take (length prefix) (text.now)) prefix ≡ false)
    (λ x. (pointwise eqb (take (length prefix) (text.now)) prefix ≡ true) × (x.now ≡ drop (length prefix) (text.now))
    × (length (x.now) + length prefix ≡ length (text.now)))
    → (unwrap_or r text).now ≡ stripped prefix (text.now)
or_all prefix text None m = sym (stripped-not prefix (text.now) (sym (heads_equal prefix (text.now)) ∙ m))
or_all prefix text (Some x) m = m.1 ∙ sym (stripped_there prefix (text.now) (sym (heads_equal prefix (text.now)) ∙ m.0))

pub returns : goal.returns
returns c = let r = c.unwrap_or.ensures in rw r (or_all (c.args.prefix.now) c.args.text c.strip_prefix.result c.strip_prefix.ensures.cases)
