use Rattle.pages.proofs.Names.{sym, ap, ◌∙◌, ◌-◌, ◌*◌, arith, length, length-drop, drop, bytes_of}
use lib.Seq.{take_all}
use Rattle.pages.proofs.Rows.{bytes-within}
use Rattle.pages.proofs.Paging.{not-allowed, height_in, before-refused, before-none, before-beyond, page-refused, far, found_none, page_found}
use Rattle.pages.proofs.find_page.Goals as goal

pub slice_bounds-skip_rows-count : goal.slice_bounds-skip_rows-count
slice_bounds-skip_rows-count c =
    let a = c.args in
    omega (arith, c.skip_rows-start.ensures, bytes-within a.text.now (a.height * (a.page - 1)))

pub slice_bounds-skip_rows-start : goal.slice_bounds-skip_rows-start
slice_bounds-skip_rows-start c =
    let a = c.args in
    omega (arith, c.skip_rows-start.ensures, bytes-within a.text.now (a.height * (a.page - 1)))

pub returns-then-not-is_height : goal.returns-then-not-is_height
returns-then-not-is_height c =
    let a = c.args in
    let s = a.text.now in
    let out = not-allowed a.height (sym c.is_height.ensures ∙ c.if-not-is_height.true) in
    let told = page-refused a.height a.page s (before-refused a.height a.page s out) in record {
      start = told.0;
      size = told.1;
    }

pub returns-then-page-lt1 : goal.returns-then-page-lt1
returns-then-page-lt1 c =
    let a = c.args in
    let s = a.text.now in
    let h = height_in a.height (sym c.is_height.ensures ∙ c.if-not-is_height.false) in
    let told = page-refused a.height a.page s (before-none a.height a.page s h.0 h.1 (omega arith)) in record {
      start = told.0;
      size = told.1;
    }

pub returns-then-text-height : goal.returns-then-text-height
returns-then-text-height c =
    let a = c.args in
    let s = a.text.now in
    let h = height_in a.height (sym c.is_height.ensures ∙ c.if-not-is_height.false) in
    let l = far a.height a.page s h.0 c.if-text-height.true in
    let told = page-refused a.height a.page s (before-beyond a.height a.page s h.0 h.1 (omega arith) l) in record {
      start = told.0;
      size = told.1;
    }

pub returns-then-start-text : goal.returns-then-start-text
returns-then-start-text c =
    let a = c.args in
    let s = a.text.now in
    let h = height_in a.height (sym c.is_height.ensures ∙ c.if-not-is_height.false) in
    let l = found_none a.height a.page s c.skip_rows-start.result 0 c.skip_rows-start.ensures c.if-start-text.true in
    let told = page-refused a.height a.page s (before-beyond a.height a.page s h.0 h.1 (omega arith) l) in record {
      start = told.0;
      size = told.1;
    }

pub returns : goal.returns
returns c =
    let a = c.args in
    let s = a.text.now in
    let start = c.skip_rows-start in
    let size = c.skip_rows-size in
    let h = height_in a.height (sym c.is_height.ensures ∙ c.if-not-is_height.false) in
    let rest = drop start.result s in
    let own = size.ensures ∙ ap (bytes_of a.height) (take_all (length s - start.result) rest (omega (arith, length-drop start.result s))) in
    let told = page_found a.height a.page s start.result size.result start.ensures h.0 h.1 (omega arith) c.if-start-text.false own in record {
      start = told.0;
      size = told.1;
    }
