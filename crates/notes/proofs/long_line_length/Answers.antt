use Rattle.std.proofs.Common.{rules, tests}
use Rattle.std.proofs.lemmas.Iterator.{YieldsList-from_slice}
use Rattle.std.proofs.lemmas.Iterator.Search.{position_from_yields_List}
use Rattle.notes.proofs.Names.{◌+◌, ◌-◌, ◌<◌, ◌≤◌, ◌≡◌, ◌∙◌, ap, sym, ℕ, List, arith, length, take, drop}
use Rattle.splitter.specs.Split.{is_line_end, line}
use Rattle.splitter.proofs.Positions.{ends_where}
use Rattle.notes.proofs.Scans.{Passed, passed_none, passed-whole, ends-within, rest_is}
use Rattle.notes.proofs.long_line_length.Goals.{After-front-n}
use Rattle.notes.proofs.long_line_length.Goals as goal

-- the block is the next 16 bytes
block_is : (c : After-front-n) → c.in-Some.block.now ≡ take 16 (drop c.loop-block.len c.args.s.now)
block_is c = c.in-Some.ensures.cases.same ∙ ap (take 16) (rest_is c.args.s.now c.loop-block.len)

next : (c : After-front-n) → 16 ≤ c.front-n.result.len → Passed c.args.s.now (c.loop-block.len + 16)
next c = passed-whole c.args.s.now _ _ _ c.loop-block.invariant (block_is c) c.front-n.ensures.len

ends : (c : After-front-n) → c.front-n.result.len < 16 → length (line c.args.s.now) ≡ c.loop-block.len + c.front-n.result.len
ends c = ends-within c.args.s.now _ _ _ c.loop-block.invariant (block_is c) c.front-n.ensures.len

pub loop-block-init : goal.loop-block-init
loop-block-init c = passed_none c.args.s.now

pub loop-block-preserved : goal.loop-block-preserved
loop-block-preserved c = next (goal.at.loop-block-preserved c).After-front-n (omega arith)

pub returns-then-n-lt16 : goal.returns-then-n-lt16
returns-then-n-lt16 c = sym (ends (goal.at.returns-then-n-lt16 c).After-front-n (omega arith))

pub returns : goal.returns
returns c =
    let s = c.args.s.now in
    let len = c.loop-block.len in
    let last = take (length s - len) (drop len s) in
    let found =
    position_from_yields_List is_line_end _ _ c.position.result c.position.ensures.ran (YieldsList-from_slice last cc) (λ x b q k. search (rules, tests)) in
    let n : c.unwrap_or.result ≡ length (line last) = ends_where is_line_end last c.unwrap_or.ensures found in
    omega (arith, n, c.loop-block.invariant.reaches, ap (λ (t : List ℕ). length (line t)) (rest_is s len))
