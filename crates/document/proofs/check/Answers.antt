use Rattle.std.proofs.lemmas.Result.{err_from_is_err_and}
use Rattle.document.proofs.Names.{sym, ap, ◌∙◌}
use Rattle.refusal.specs.Answers.{answered}
use Rattle.document.proofs.Opening.{check_long, check-refused, check-closed, check-left}
use Rattle.document.proofs.check.Goals as goal

pub returns-then-document-gt-MAX_BYTES : goal.returns-then-document-gt-MAX_BYTES
returns-then-document-gt-MAX_BYTES c = check_long (c.args.document.now) c.if-document-gt-MAX_BYTES.true

pub returns-in_err-blocks : goal.returns-in_err-blocks
returns-in_err-blocks c =
    let p = err_from_is_err_and c.from_residual.result c.from_residual.ensures.1 in
    rw (p.1, p.2)
    (check-refused (c.args.document.now) c.if-document-gt-MAX_BYTES.false (ap answered (sym c.in_err-blocks.was) ∙ c.open_blocks.ensures))

pub returns-then-depth-ne0 : goal.returns-then-depth-ne0
returns-then-depth-ne0 c =
    check-left (c.args.document.now) c.if-document-gt-MAX_BYTES.false (ap answered (sym c.in_ok-blocks.was) ∙ c.open_blocks.ensures)
    (λ z. c.if-depth-ne0.true (c.depth.ensures.0 ∙ z))

pub returns : goal.returns
returns c =
    check-closed (c.args.document.now) c.if-document-gt-MAX_BYTES.false (ap answered (sym c.in_ok-blocks.was) ∙ c.open_blocks.ensures)
    (sym c.depth.ensures.0 ∙ c.if-depth-ne0.false)
