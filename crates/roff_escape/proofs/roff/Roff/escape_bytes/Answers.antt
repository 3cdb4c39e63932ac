use Rattle.roff_escape.proofs.Names.{sym, ◌∙◌, drop_of_length-le}
use Rattle.roff_escape.proofs.Escaping.{from-here}
use Rattle.roff_escape.proofs.Composing.{left-none, left_more}
use Rattle.roff_escape.proofs.roff.Roff.escape_bytes.Goals as goal

pub loop-c-preserved : goal.loop-c-preserved
loop-c-preserved c =
    let l = c.loop-c in
    left_more c.args.mode _ _ _ _ _ _ _ c.put_byte.ensures (from-here c.args.bytes.now l.c-index c.loop-c-test.true) l.invariant

pub returns : goal.returns
returns c =
    let l = c.loop-c in
    sym (left-none c.args.mode l.self _ (drop_of_length-le c.args.bytes.now {i = l.c-index} c.loop-c-test.false)) ∙ l.invariant
