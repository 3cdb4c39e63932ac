use Rattle.pages.proofs.Names.{arith}
use Rattle.pages.proofs.Paging.{shown-part}
use Rattle.pages.proofs.page.Goals as goal

pub overflow_add-result : goal.overflow_add-result
overflow_add-result c =
    let a = c.args in
    let f = c.find_page in
    omega (arith, (shown-part a.height a.page (a.text.now) f.result f.ensures.start f.ensures.size _ c.in-Ok.is).0)

pub slice_bounds-result-end : goal.slice_bounds-result-end
slice_bounds-result-end c =
    let a = c.args in
    let f = c.find_page in
    (shown-part a.height a.page (a.text.now) f.result f.ensures.start f.ensures.size _ c.in-Ok.is).0

pub returns-in-Ok : goal.returns-in-Ok
returns-in-Ok c =
    let a = c.args in
    let f = c.find_page in
    (shown-part a.height a.page (a.text.now) f.result f.ensures.start f.ensures.size _ c.in-Ok.is).1
