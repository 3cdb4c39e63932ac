use Rattle.std.proofs.Common.{rules, tests}
use Rattle.std.proofs.lemmas.Iterator.{YieldsList-from_slice}
use Rattle.std.proofs.lemmas.Iterator.Search.{position_from_yields_List}
use Rattle.splitter.proofs.Names.{ap, ◌-◌, ℕ, List, length, take, drop, part_over, le_refl, arith, is_line_end, line}
use Rattle.splitter.proofs.Positions.{ends_where}
use Rattle.splitter.proofs.line_end.Goals as goal

pub returns : goal.returns
returns c =
    let s = c.get_from-rest.result.now in
    let len = c.line_blocks-len.result in
    let last = take (length s - len) (drop len s) in
    let found =
    position_from_yields_List is_line_end _ _ c.position.result c.position.ensures.ran (YieldsList-from_slice last cc) (λ x b q k. search (rules, tests)) in
    let size = λ (l : List ℕ). length (line l) in
    let n = ends_where is_line_end last c.unwrap_or.ensures found in
    omega (arith, n, c.line_blocks-len.ensures.reaches, ap size (part_over s len (length s) (le_refl (length s))), ap size c.get_from-rest.ensures)
