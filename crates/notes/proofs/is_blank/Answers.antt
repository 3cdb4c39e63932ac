use Rattle.std.proofs.Common.{rules, tests}
use Rattle.std.proofs.lemmas.Iterator.{YieldsList-from_slice}
use Rattle.std.proofs.lemmas.Iterator.Search.{find_from_yields_List}
use Rattle.notes.proofs.Scans.{other, by_found}
use Rattle.notes.proofs.is_blank.Goals as goal

pub returns : goal.returns
returns c =
    let rest = c.args.s.now in
    let found =
    find_from_yields_List other _ _ _ c.find-other.ensures.ran (YieldsList-from_slice rest cc) (λ x b q k. search (rules, tests)) in
    by_found c.find-other.result rest _ found (search rules)
