use Rattle.manpage.proofs.Names.{sym, ◌∙◌}
use Rattle.manpage.proofs.Capturing.{upper-end}
use Rattle.roff_escape.proofs.Composing.{left-none, left_more}
use Rattle.manpage.proofs.escape_mapped.Goals as goal

pub loop-i-preserved : goal.loop-i-preserved
loop-i-preserved c =
    let u = c.to_uppercase-cased.ensures.text in (
      left_more _ _ _ _ _ _ _ _ c.escape_bytes.ensures u.text c.loop-i.invariant.0,
      sym u.valid ∙ c.loop-i.invariant.1,
    )

pub returns : goal.returns
returns c =
    let l = c.loop-i in
    sym (left-none _ l.m _ (upper-end c.args.bytes.now l.i c.loop-i-test.false)) ∙ l.invariant.0
