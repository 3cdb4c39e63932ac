use Rattle.sefgrunn.proofs.Pages.{paged}
use Rattle.sefgrunn.proofs.sefgrunn_page.Goals as goal

pub returns-clause-part : goal.returns-clause-part
returns-clause-part c =
    let a = c.args in
    let r = c.find_page-answer in
    paged a.height a.page a.text.now r.result _ r.ensures.start r.ensures.size c.unwrap_or-part.ensures
