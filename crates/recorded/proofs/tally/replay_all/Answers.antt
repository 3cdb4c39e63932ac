use Rattle.std.proofs.Common.{◌≡◌, ◌<◌, ◌+◌, refl, arith, ap, subst, sym, take, ◌∙◌}
use Rattle.std.specs.Fn.{FnReturnsAt}
use Rattle.recorded.proofs.Running.{Runs, read_this, runs_more, tallied-cases}
use Rattle.recorded.specs.Spoken.{ReadsCase}
use Rattle.recorded.specs.declared.tally.Tally.{Tally}
use Rattle.recorded.proofs.tally.replay_all.Goals as goal

pub cases-preserved : goal.cases-preserved
cases-preserved g c =
    let left = g.R.Read.remaining in
    let l = c.cases in
    let buffer = c.next_case.new.buffer in
    let case = take c.in-Some.n buffer in
    let same = c.agrees-same.result in
    let read = read_this _ _ buffer c.in-Some.n (subst (ReadsCase (left l.reader) (left c.next_case.new.reader) buffer) c.in-Some.is c.in_ok-n.ensures) in
    let said : FnReturnsAt g.F.Fn c.args.agrees case same = record { shown = _; shows = refl; says = record { met = c.agrees-same.ensures } } in
    let below : l.tally.cases < 1_000_000 = omega arith in
    let P = λ (t : Tally). Runs (FnReturnsAt g.F.Fn c.args.agrees) (left c.args.reader.now) (left c.next_case.new.reader) t × (t.cases ≡ l.counter + 1) in
    subst P (sym c.add.ensures)
    (runs_more _ _ _ _ l.tally case same l.invariant.0 below read said, tallied-cases l.tally case same below ∙ ap (λ n. n + 1) l.invariant.1)
