use Rattle.merge_sides.proofs.Names.{sym, ◌∙◌, arith}
use Rattle.merge_sides.proofs.Listing.{tells_yes, tells_no, stop-low, next_low, short-not}
use Rattle.merge_sides.proofs.Listing.{start-not, listing_0, none-not, past-not, stands-not, listing_next, listing_end}
use Rattle.merge_sides.proofs.is_list.Goals.{then-document-lt12-via-then-document-lt12, then-document-lt12-via-else-document-lt12+then-not-starts_with}
use Rattle.merge_sides.proofs.is_list.Goals.{then-last-p-via-then-last-p, then-last-p-via-else-last-p+then-not-stands}
use Rattle.merge_sides.proofs.is_list.Goals as goal

pub returns-then-document-lt12 : goal.returns-then-document-lt12
returns-then-document-lt12 c =
    elim c.then-document-lt12.branch [
      | then-document-lt12-via-then-document-lt12 w ↦ short-not _ w.if-document-lt12.true
      | then-document-lt12-via-else-document-lt12+then-not-starts_with w ↦ start-not _ (sym w.starts_with.ensures ∙ w.if-not-starts_with.true)
    ]

pub loop-at-init : goal.loop-at-init
loop-at-init c = listing_0 _ (omega (arith, c.if-document-lt12.false)) (sym c.starts_with.ensures ∙ c.if-not-starts_with.false)

pub returns-in_default : goal.returns-in_default
returns-in_default c = none-not c.loop-at.invariant c.in_default.ensures c.loop-at-test.true

pub returns-then-last-p : goal.returns-then-last-p
returns-then-last-p c =
    let n = c.in-Some in
    elim c.then-last-p.branch [
      | then-last-p-via-then-last-p w ↦ past-not c.loop-at.invariant n.p n.ensures c.loop-at-test.true w.if-last-p.true
      | then-last-p-via-else-last-p+then-not-stands w ↦
          stands-not c.loop-at.invariant n.p n.ensures c.loop-at-test.true (tells_no w.stands.result w.stands.ensures w.if-not-stands.true)
    ]

pub loop-at-smaller : goal.loop-at-smaller
loop-at-smaller c = let st = tells_yes c.stands.result c.stands.ensures c.if-not-stands.false in
    omega (arith, stop-low st, next_low st, c.loop-at-test.true)

pub loop-at-preserved : goal.loop-at-preserved
loop-at-preserved c =
    let n = c.in-Some in
    listing_next c.loop-at.invariant n.p n.ensures c.loop-at-test.true
    (tells_yes c.stands.result c.stands.ensures c.if-not-stands.false) (omega (arith, c.if-last-p.false))

pub returns : goal.returns
returns c = listing_end c.loop-at.invariant c.loop-at-test.false _ c.starts_with-2.ensures
