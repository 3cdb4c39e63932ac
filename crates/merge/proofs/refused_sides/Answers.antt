use Rattle.std.proofs.lemmas.Result.{err_from_is_err_and}
use Rattle.merge.proofs.Names.{[], refl, verdict_gives, verdict_refused}
use Rattle.merge_rules.specs.Merge.{first-refused, second_refused}
use Rattle.merge.proofs.Whole.{sides_told}
use Rattle.merge.proofs.refused_sides.Goals as goal

pub returns-in_err-check : goal.returns-in_err-check
returns-in_err-check c =
    let p = err_from_is_err_and c.from_residual.result c.from_residual.ensures.1 in
    rw (p.1, p.2) (λ room. first-refused (verdict_refused [] c.check.ensures c.in_err-check.was))

pub returns-in_err-check-2 : goal.returns-in_err-check-2
returns-in_err-check-2 c =
    let p = err_from_is_err_and c.from_residual-in_err-check-2.result c.from_residual-in_err-check-2.ensures.1 in
    rw (p.1, p.2) (λ room. second_refused (verdict_gives [] c.check.ensures c.in_ok-check.was) (verdict_refused [] c.check-2.ensures c.in_err-check-2.was))

pub returns-in-NotAList-default : goal.returns-in-NotAList-default
returns-in-NotAList-default c =
    sides_told _ _ (verdict_gives [] c.check.ensures c.in_ok-check.was) (verdict_gives [] c.check-2.ensures c.in_ok-check-2.was)
    c.side_of.ensures c.side_of-2.ensures _ _ c.in-NotAList-default.is-0 refl

pub returns-in-NotAList-default-2 : goal.returns-in-NotAList-default-2
returns-in-NotAList-default-2 c =
    sides_told _ _ (verdict_gives [] c.check.ensures c.in_ok-check.was) (verdict_gives [] c.check-2.ensures c.in_ok-check-2.was)
    c.side_of.ensures c.side_of-2.ensures _ _ c.in-NotAList-default.is-0 c.in-NotAList-default.is-1

pub returns-in-NotAList-default-3 : goal.returns-in-NotAList-default-3
returns-in-NotAList-default-3 c =
    sides_told _ _ (verdict_gives [] c.check.ensures c.in_ok-check.was) (verdict_gives [] c.check-2.ensures c.in_ok-check-2.was)
    c.side_of.ensures c.side_of-2.ensures _ _ c.in-NotAList-default.is-0 c.in-NotAList-default.is-1

pub returns-in-NotAscending-default : goal.returns-in-NotAscending-default
returns-in-NotAscending-default c =
    sides_told _ _ (verdict_gives [] c.check.ensures c.in_ok-check.was) (verdict_gives [] c.check-2.ensures c.in_ok-check-2.was)
    c.side_of.ensures c.side_of-2.ensures _ _ c.in-NotAscending-default.is-0 c.in-NotAscending-default.is-1

pub returns-in-NotAscending-default-2 : goal.returns-in-NotAscending-default-2
returns-in-NotAscending-default-2 c =
    sides_told _ _ (verdict_gives [] c.check.ensures c.in_ok-check.was) (verdict_gives [] c.check-2.ensures c.in_ok-check-2.was)
    c.side_of.ensures c.side_of-2.ensures _ _ c.in-NotAscending-default.is-0 c.in-NotAscending-default.is-1

pub returns-in-NotAscending-default-3 : goal.returns-in-NotAscending-default-3
returns-in-NotAscending-default-3 c =
    sides_told _ _ (verdict_gives [] c.check.ensures c.in_ok-check.was) (verdict_gives [] c.check-2.ensures c.in_ok-check-2.was)
    c.side_of.ensures c.side_of-2.ensures _ _ c.in-NotAscending-default.is-0 c.in-NotAscending-default.is-1

pub returns-in-Ascending-Ascending : goal.returns-in-Ascending-Ascending
returns-in-Ascending-Ascending c =
    sides_told _ _ (verdict_gives [] c.check.ensures c.in_ok-check.was) (verdict_gives [] c.check-2.ensures c.in_ok-check-2.was)
    c.side_of.ensures c.side_of-2.ensures _ _ c.in-Ascending-Ascending.is-0 c.in-Ascending-Ascending.is-1
