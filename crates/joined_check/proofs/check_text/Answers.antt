use Rattle.joined_check.proofs.Names.{sym}
use Rattle.joined_check.proofs.Checking.{text_long, text_none, text_whole}
use Rattle.joined_check.proofs.check_text.Goals as goal

pub returns-then-joined-gt-MAX_BYTES : goal.returns-then-joined-gt-MAX_BYTES
returns-then-joined-gt-MAX_BYTES c = text_long c.args.joined.now c.if-joined-gt-MAX_BYTES.true

pub returns-then-not-has_text : goal.returns-then-not-has_text
returns-then-not-has_text c = text_none c.args.joined.now c.if-joined-gt-MAX_BYTES.false (sym c.if-not-has_text.ensures)

pub returns : goal.returns
returns c = text_whole c.args.joined.now c.if-joined-gt-MAX_BYTES.false (sym c.if-not-has_text.ensures)
