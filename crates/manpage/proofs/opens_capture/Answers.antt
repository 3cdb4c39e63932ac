use Rattle.manpage.proofs.Names.{sym, ◌∙◌}
use Rattle.manpage.proofs.Blocks.{opened-heading, opened-other}
use Rattle.manpage.proofs.opens_capture.Goals as goal

pub returns-then-is_heading : goal.returns-then-is_heading
returns-then-is_heading c =
    rw (c.behind.ensures, c.unwrap_or.ensures)
    (opened-heading c.args.b c.args.captured c.args.place c.args.next (sym c.is_heading.ensures ∙ c.if-is_heading.true))

pub returns : goal.returns
returns c = opened-other c.args.b c.args.captured c.args.place c.args.next (sym c.is_heading.ensures ∙ c.if-is_heading.false)
