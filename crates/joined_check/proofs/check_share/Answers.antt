use Rattle.joined_check.proofs.Names.{sym, refl, arith}
use Rattle.joined_check.proofs.Checking.{share-past, share_valid, share_other}
use Rattle.joined_check.proofs.check_share.Goals as goal

pub returns-then-size-eq0 : goal.returns-then-size-eq0
returns-then-size-eq0 c stack =
    rw c.if-size-eq0.true (share_valid c.args.at 0 c.args.text.now stack (omega arith) refl)

pub returns-then-text-size : goal.returns-then-text-size
returns-then-text-size c stack = share-past c.args.at c.args.size _ stack c.if-text-size.true

pub returns-then-not-valid : goal.returns-then-not-valid
returns-then-not-valid c stack = share_other c.args.at c.args.size _ stack c.if-text-size.false (sym c.if-not-valid.ensures)

pub returns : goal.returns
returns c stack = share_valid c.args.at c.args.size _ stack c.if-text-size.false (sym c.if-not-valid.ensures)
