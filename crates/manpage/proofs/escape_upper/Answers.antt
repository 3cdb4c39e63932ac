use borrow.Author.Tests.{ltb-true}
use Rattle.upper.proofs.Ascii.{upper_is}
use Rattle.manpage.proofs.Names.{sym, ◌∙◌, ◌≤◌, arith, get_or}
use Rattle.manpage.proofs.Capturing.{valid_past_ascii, upper-here}
use Rattle.roff_escape.proofs.Composing.{left_more}
use Rattle.manpage.proofs.escape_upper.Goals as goal

pub loop-i-preserved : goal.loop-i-preserved
loop-i-preserved c =
    let l = c.loop-i in
    let t = c.loop-i-test.true in
    let b : get_or c.args.bytes.now l.i 0 ≤ 0x7F = omega (arith, ltb-true (get_or c.args.bytes.now l.i 0) 0x80 (sym c.if-not-is_ascii.ensures)) in (
      valid_past_ascii l.invariant.0 t b,
      left_more _ _ _ _ _ _ _ _ c.put_byte.ensures (upper-here l.invariant.0 t b _ (c.to_ascii_uppercase.ensures.value ∙ upper_is _)) l.invariant.1,
    )
