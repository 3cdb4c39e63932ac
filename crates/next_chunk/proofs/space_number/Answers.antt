use mathlib.Core.Path.{sym, ◌∙◌}
use Rattle.next_chunk.proofs.Numbers.{space_part, space_of_line-end}
use Rattle.next_chunk.proofs.space_number.Goals as goal

pub returns-then-starts_with : goal.returns-then-starts_with
returns-then-starts_with c =
    let args = c.args in
    space_part args.body.now args.at (sym c.starts_with.ensures ∙ c.if-starts_with.true)

pub returns-else-starts_with : goal.returns-else-starts_with
returns-else-starts_with c =
    let args = c.args in
    space_of_line-end args.body.now args.at (sym c.starts_with.ensures ∙ c.if-starts_with.false)
