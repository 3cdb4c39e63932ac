use Rattle.console_tabstop.proofs.Names.{◌<◌, ◌≡◌, sym, ap, ◌∙◌, ◌+◌, true, arith, length, drop, tokens, head_of, Read}
use Rattle.console_tabstop.proofs.Names.{Terms, terms, settled_from, tabstop, settled_at, terms_of}
use lib.ListN.{length-drop}
use Rattle.records.specs.Records.{record_fits}
use Rattle.records.proofs.Reading.{fits_room}
use Rattle.console_tabstop.proofs.Searching.{On, on-done, on-passed, on-settled, on-next}
use Rattle.console_tabstop.proofs.find_tabstop.Invariants.{none}
use Rattle.console_tabstop.proofs.find_tabstop.Goals.{then-not-t, else-not-t, Joined-not-t, After-whole_raw_at-r}
use Rattle.console_tabstop.proofs.find_tabstop.Goals as goal

-- the invariant at the record that is read: outside a term, after those that were stepped over
stepped : (c : Joined-not-t)
    → On c.args.document.now (terms (tokens 0 0 c.args.document.now) none) (settled_from (length c.args.document.now) (tokens 0 0 c.args.document.now) none)
    c.if-not-t.at (terms_of c.loop-at.t)
stepped c =
    let l = c.loop-at in
    elim c.if-not-t.branch [
      | then-not-t w ↦ rw w.at-is (on-passed _ _ _ l.at (terms_of l.t) l.invariant _ w.next_term-at.ensures w.if-not-t.true)
      | else-not-t w ↦ rw w.at-is l.invariant
    ]

-- that record, which lies whole, and so before the document's end
module _ (c : After-whole_raw_at-r) where
  whole : record_fits (drop c.if-not-t.at c.args.document.now) ≡ true
  whole = sym c.fits_at.ensures ∙ c.if-not-fits_at.false

  read : Read c.args.document.now c.if-not-t.at (head_of c.whole_raw_at-r.result)
  read = c.whole_raw_at-r.ensures whole

  inside : c.if-not-t.at < length c.args.document.now
  inside =
      let s = c.args.document.now in
      omega (arith, fits_room (drop c.if-not-t.at s) whole, length-drop c.if-not-t.at s)

pub loop-at-preserved : goal.loop-at-preserved
loop-at-preserved c =
    let o = stepped (goal.at.loop-at-preserved c).Joined-not-t in
    let r = (goal.at.loop-at-preserved c).After-whole_raw_at-r in
    let later = sym c.settles.ensures ∙ c.if-settles.false in
    on-next _ _ _ c.if-not-t.at (terms_of c.loop-at.t) o (head_of c.whole_raw_at-r.result) (read r) (inside r) later _ c.on.ensures

pub returns-then-not-fits_at : goal.returns-then-not-fits_at
unfolding tabstop settled_at
returns-then-not-fits_at c =
    let o = stepped (goal.at.returns-then-not-fits_at c).Joined-not-t in
    let e = c.find_from.ensures in record {
      tabstop = (e.tabstop.0 ∙ ap (λ (u : Terms). u.widest + 4) o.counts, e.tabstop.1);
      settled = e.settled ∙ o.settled;
    }

pub returns-then-settles : goal.returns-then-settles
unfolding tabstop settled_at
returns-then-settles c =
    let o = stepped (goal.at.returns-then-settles c).Joined-not-t in
    let r = (goal.at.returns-then-settles c).After-whole_raw_at-r in
    let here = sym c.settles.ensures ∙ c.if-settles.true in
    let e = on-settled _ _ _ c.if-not-t.at (terms_of c.loop-at.t) o (head_of c.whole_raw_at-r.result) (read r) (inside r) here in record {
      tabstop = (e.0, omega arith);
      settled = e.1;
    }

pub returns : goal.returns
unfolding tabstop settled_at
returns c =
    let l = c.loop-at in
    let e = on-done _ _ _ l.at (terms_of l.t) l.invariant c.loop-at-test.false in record {
      tabstop = (e.0, omega (arith, l.invariant.narrow));
      settled = e.1;
    }
