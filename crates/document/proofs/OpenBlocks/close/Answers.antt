use Rattle.document.proofs.Names.{sym}
use Rattle.document.proofs.Opening.{closes-other, closes-same}
use Rattle.document.proofs.OpenBlocks.close.Goals as goal

pub returns-then-not-is_innermost-clause-closed : goal.returns-then-not-is_innermost-clause-closed
returns-then-not-is_innermost-clause-closed g c = closes-other _ _ _ (sym c.if-not-is_innermost.ensures)

pub returns-clause-closed : goal.returns-clause-closed
returns-clause-closed g c =
    rw c.pop.ensures (closes-same _ _ _ (sym c.if-not-is_innermost.ensures))
