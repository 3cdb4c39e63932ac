use Rattle.console_tabstop.proofs.Names.{sym, ◌∙◌, arith, head_of, terms_of}
use Rattle.console_tabstop.proofs.Searching.{on-done, on-settled, on-next}
use Rattle.console_tabstop.proofs.find_from.Goals as goal

pub loop-i-preserved : goal.loop-i-preserved
loop-i-preserved c =
    let r = c.raw_at-r in
    let l = c.loop-i in
    let later = sym c.settles.ensures ∙ c.if-settles.false in
    let inside = c.loop-i-test.true in
    on-next _ _ _ l.i (terms_of l.t) l.invariant (head_of r.result) r.ensures.read inside later _ c.on.ensures

pub returns-then-settles : goal.returns-then-settles
returns-then-settles c =
    let r = c.raw_at-r in
    let l = c.loop-i in
    let here = sym c.settles.ensures ∙ c.if-settles.true in
    let e = on-settled _ _ _ l.i (terms_of l.t) l.invariant (head_of r.result) r.ensures.read c.loop-i-test.true here in record {
      tabstop = (e.0, omega arith);
      settled = e.1;
    }

pub returns : goal.returns
returns c =
    let l = c.loop-i in
    let e = on-done _ _ _ l.i (terms_of l.t) l.invariant c.loop-i-test.false in record {
      tabstop = (e.0, omega (arith, l.invariant.narrow));
      settled = e.1;
    }
