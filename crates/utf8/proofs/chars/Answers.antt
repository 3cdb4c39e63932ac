use Rattle.utf8.proofs.Names.{◌∙◌, sym, ap, arith, utf8, length, length-drop}
use Rattle.utf8.proofs.Laws.{Next, next_of, rest_is, ends_there}
use Rattle.utf8.proofs.chars.Goals.{In-Some}
use Rattle.utf8.proofs.chars.Goals as goal

-- past a character
past : (c : In-Some) → Next c.loop-k.rest.now c.in-Some.k
past c = next_of c.loop-k.rest.now c.in-Some.ensures.1 c.in-Some.ensures.0

pub slice_bounds-rest-count : goal.slice_bounds-rest-count
slice_bounds-rest-count c = (past c).room

pub slice_bounds-rest-start : goal.slice_bounds-rest-start
slice_bounds-rest-start c = (past (goal.at.slice_bounds-rest-start c).In-Some).room

pub loop-k-preserved : goal.loop-k-preserved
loop-k-preserved c =
    let t = c.loop-k.rest.now in
    c.loop-k.invariant ∙ (past (goal.at.loop-k-preserved c).In-Some).rest ∙ ap utf8 (sym (rest_is c.in-Some.k t))

pub loop-k-smaller : goal.loop-k-smaller
loop-k-smaller c =
    let t = c.loop-k.rest.now in
    let n = (past (goal.at.loop-k-smaller c).In-Some).room in
    omega (arith, n, c.in-Some.ensures.0, ap length (rest_is c.in-Some.k t), length-drop c.in-Some.k t)

pub returns : goal.returns
returns c =
    c.is_empty.ensures ∙ ends_there (c.loop-k.rest.now) c.in_default.ensures ∙ sym c.loop-k.invariant
