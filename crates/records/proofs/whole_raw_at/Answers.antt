use Rattle.records.proofs.Names.{ap, ◌∙◌, false≢true, arith, kind_of, size}
use Rattle.records.proofs.Reading.{fits_short, read_fits}
use Rattle.records.proofs.whole_raw_at.Goals as goal

pub returns-then-document-at : goal.returns-then-document-at
returns-then-document-at c =
    let a = c.args in
    λ f. absurd (false≢true (fits_short (a.document.now) a.at (omega arith) ∙ f))

pub returns-then-document-at-lt6 : goal.returns-then-document-at-lt6
returns-then-document-at-lt6 c =
    let a = c.args in
    λ f. absurd (false≢true (fits_short (a.document.now) a.at (omega arith) ∙ f))

pub returns : goal.returns
unfolding size
returns c =
    let a = c.args in
    let k = ap kind_of c.whole_two-kind.ensures.0 in
    read_fits (a.document.now) a.at _ c.if-document-at.false k _ c.whole_four.ensures.0 (omega arith)
