use Rattle.splitter.proofs.Names.{◌+◌, ◌≤◌, ◌∙◌, ap, le_refl, length, take, drop, part_over}
use Rattle.splitter.proofs.Lines.{line_begins-block, line_begins-more}
use Rattle.splitter.specs.InnerParts.{LineBegins}
use Rattle.splitter.proofs.line_blocks.Goals.{After-front-part}
use Rattle.splitter.proofs.line_blocks.Goals as goal
use borrow.Author.Rules.{rules}

-- the line begins also with the bytes of the block that stand before its end
on : (c : After-front-part) → LineBegins c.args.text.now (c.loop-block.len + c.front-part.result.len)
on c =
    let s = c.args.text.now in
    let l = c.loop-block in
    let part = c.front-part in
    let block = c.in-Some.ensures.cases.same ∙ ap (take 16) (part_over s l.len (length s) (le_refl (length s))) in
    line_begins-more s l.len _ l.invariant (line_begins-block (drop l.len s) c.in-Some.block.now part.result.len block part.ensures.len)

pub overflow_add-len : goal.overflow_add-len
overflow_add-len c =
    let s = c.args.text.now in
    let i = on (goal.at.overflow_add-len c).After-front-part in
    let f : c.loop-block.len + c.front-part.result.len ≤ length s = i.within in
    search rules

pub loop-block-preserved : goal.loop-block-preserved
loop-block-preserved c = on (goal.at.loop-block-preserved c).After-front-part

pub returns-then-part-lt16 : goal.returns-then-part-lt16
returns-then-part-lt16 c = on (goal.at.returns-then-part-lt16 c).After-front-part
