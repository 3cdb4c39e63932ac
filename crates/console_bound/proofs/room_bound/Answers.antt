use Rattle.console_bound.proofs.Names.{ap, ◌∙◌, [], gives, bound}
use Rattle.refusal.proofs.Exits.{answered-exit}
use Rattle.document.proofs.Walks.{of_gives, of_refused}
use Rattle.console_bound.proofs.Counts.{bound-gives, bound-refused, bound_enough}
use Rattle.console_bound.proofs.room_bound.Goals as goal

pub returns-in_err-accepted : goal.returns-in_err-accepted
returns-in_err-accepted c =
    let s = c.args.document.now in
    let e = answered-exit c.from_residual.result _ c.from_residual.ensures.1 ∙ bound-refused s _ _ (of_refused _ c.of.ensures c.in_err-accepted.was)
    in record { answer = e; enough = bound_enough s _ e }

pub returns : goal.returns
returns c =
    let s = c.args.document.now in
    let g = of_gives s c.of.ensures c.in_ok-accepted.was in
    let e = ap gives (c.bound_of.ensures ∙ ap bound g.1) ∙ bound-gives s [] g.0 in record { answer = e; enough = bound_enough s _ e }
