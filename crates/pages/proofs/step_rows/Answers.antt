use Rattle.pages.proofs.Names.{ℕ, ◌-◌, ◌≡◌, sym, ap, ◌∙◌, eqb, bytes_of}
use Rattle.std.specs.Prelude.{Some, None}
use Rattle.std.specs.Borrow.{Bor}
use Rattle.std.specs.List.{slice_get}
use Rattle.std.specs.Option.{option_map}
use borrow.Author.Tests.{tests}
use Rattle.std.proofs.Common.{rules}
use Rattle.std.proofs.lemmas.Iterator.{YieldsList-from_slice}
use Rattle.std.proofs.lemmas.Iterator.Consumers.{YieldsList-from_enumerate, YieldsList-from_filter, nth_from_yields_List}
use Rattle.pages.proofs.Rows.{bytes-none, feeds_from, end_of_rows}
use Rattle.pages.proofs.step_rows.Goals.{After-nth}
use Rattle.pages.proofs.step_rows.Goals as goal

pub returns-then-k-eq0 : goal.returns-then-k-eq0
returns-then-k-eq0 c = sym (ap (λ (k : ℕ). bytes_of k c.args.s.now) c.if-k-eq0.true ∙ bytes-none c.args.s.now)

-- the line feed that the iterator gives, or that there is none
feed_given : (c : After-nth) → option_map (λ (x : ℕ × Bor ℕ). (x.0, x.1.now)) c.nth.result ≡ slice_get (feeds_from 0 c.args.s.now) (c.args.k - 1)
feed_given c =
    nth_from_yields_List c.nth.result _ _ c.nth.ensures.ran
    (YieldsList-from_filter _ (λ (p : ℕ × ℕ). eqb p.1 0x0A) (YieldsList-from_enumerate (YieldsList-from_slice c.args.s.now cc) (cc)) (cc)
    (λ x b q k. (search (rules, tests), search (rules, tests))))

pub returns-in-Some : goal.returns-in-Some
returns-in-Some c =
    let at = goal.at.returns-in-Some c in
    end_of_rows c.args.s.now c.args.k (Some _) c.if-k-eq0.false
    (ap (option_map (λ (x : ℕ × Bor ℕ). (x.0, x.1.now))) (sym c.in-Some.is) ∙ feed_given at.After-nth)

pub returns-in-None : goal.returns-in-None
returns-in-None c =
    let at = goal.at.returns-in-None c in
    end_of_rows c.args.s.now c.args.k None c.if-k-eq0.false
    (ap (option_map (λ (x : ℕ × Bor ℕ). (x.0, x.1.now))) (sym c.in-None.is) ∙ feed_given at.After-nth)
