use Rattle.merge_items.proofs.Reading.{found, found_no_term, found_no_body, found_past}
use Rattle.merge_items.proofs.item_at.Goals as goal

pub returns-then-document-at : goal.returns-then-document-at
returns-then-document-at c = found_past _ _ c.if-document-at.true

pub returns-in_err-stop : goal.returns-in_err-stop
returns-in_err-stop c = rw c.from_residual.ensures (found_no_term _ _ c.in_err-stop.ensures)

pub returns-in_err-last : goal.returns-in_err-last
returns-in_err-last c = rw c.from_residual-in_err-last.ensures (found_no_body _ _ _ c.in_ok-stop.ensures c.in_err-last.ensures)

pub returns : goal.returns
returns c = found _ _ _ _ c.in_ok-stop.ensures c.in_ok-last.ensures c.if-document-at.false
