use Rattle.joined_check.proofs.Names.{ap, refl, length, arith, ◌≡◌, ◌+◌}
use mathlib.Core.List.{List, ◌∷◌}
use Rattle.std.specs.Prelude.{ℕ}
use Rattle.std.specs.Borrow.{Bor}
use Rattle.joined_rules.specs.Joined.{heads_from}
use Rattle.joined_rules.proofs.Cut.{heads_none}
use Rattle.joined_check.proofs.Checking.{left_short, left_six}
use Rattle.joined_check.proofs.SharesIterator.next.Goals.{then-left-lt6, else-left-lt6}
use Rattle.joined_check.proofs.SharesIterator.next.Goals as goal

pub returns-then-self-place-clause-steps : goal.returns-then-self-place-clause-steps
returns-then-self-place-clause-steps c =
    let s = c.args.self.now in
    let e = heads_none s.joined.now s.at c.if-self-place.true in
    ((e, e), refl)

-- the record that is given is the first that was left
given : (c : goal.Joined-left-lt6) → let s = c.args.self.now in heads_from s.joined.now s.at ≡ c.if-left-lt6.head.now ∷ heads_from s.joined.now (s.at + 6)
given c =
    let s = c.args.self.now in
    let now = λ (x : Bor (List ℕ)). x.now in
    elim c.if-left-lt6.branch [
      | then-left-lt6 w ↦ left_short s.joined.now s.at c.if-self-place.false (ap now w.head-is) w.if-left-lt6.true
      | else-left-lt6 w ↦ left_six s.joined.now s.at c.if-self-place.false (ap now w.head-is)
    ]

pub returns-clause-steps : goal.returns-clause-steps
returns-clause-steps c = (given c, (refl, refl))

pub returns-clause-goes : goal.returns-clause-goes
returns-clause-goes c =
    let e = ap length (given c) in record {
      on = λ _. (tt, tt, omega (arith, e));
      keeps = tt;
      rests = λ _. tt;
    }
