use Rattle.records.proofs.Names.{arith}
use Rattle.records.proofs.Reading.{bare_few, bare_long, bare_here}
use Rattle.records.proofs.bare_at.Goals as goal

pub returns-then-document-at : goal.returns-then-document-at
returns-then-document-at c = bare_few (c.args.document.now) c.args.at (omega (arith, c.if-document-at.true))

pub returns-then-document-at-lt6 : goal.returns-then-document-at-lt6
returns-then-document-at-lt6 c = bare_few (c.args.document.now) c.args.at (omega (arith, c.if-document-at-lt6.true))

pub returns-then-whole_four-ne0 : goal.returns-then-whole_four-ne0
returns-then-whole_four-ne0 c =
    bare_long (c.args.document.now) c.args.at (omega (arith, c.if-document-at.false, c.if-document-at-lt6.false)) _ c.whole_four.ensures.0
    c.if-whole_four-ne0.true

pub returns : goal.returns
returns c =
    bare_here (c.args.document.now) c.args.at (omega (arith, c.if-document-at.false, c.if-document-at-lt6.false)) _ _ c.whole_four.ensures.0
    c.if-whole_four-ne0.false c.whole_two.ensures.0
