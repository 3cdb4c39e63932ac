use Rattle.std.proofs.lemmas.Result.{err_from_is_err_and}
use Rattle.std.specs.Prelude.{map}
use Rattle.joined_check.proofs.Names.{◌-◌, ◌≡◌, length, take, refl, sym, ◌∙◌, arith}
use lib.ListN.{drop, length-drop}
use lib.Seq.{take_all}
use borrow.Author.Tests.{eqb-true, eqb-false}
use Rattle.records.specs.Records.{index, size}
use Rattle.document.proofs.Held.{held_count}
use Rattle.document.proofs.Walks.{verdict_gives, verdict_refused}
use Rattle.joined_check.proofs.Checking.{share_unknown, share-text, share-start, share-end, share-start-length, share-end-length}
use Rattle.joined_check.proofs.Checking.{left_start, left_cut, left-refused, left-next, share_fits, left-open, left_over, left_done}
use Rattle.joined_check.proofs.read_shares.Goals as goal

pub loop-s-init : goal.loop-s-init
loop-s-init c = (
  refl,
  rw c.into_iter-s-iterator.ensures.into_iter_gives
      (left_start c.args.joined.now _ c.of-s-items.ensures.0 c.of-s-items.ensures.1 c.text_in-text.ensures),
)

pub returns-then-s-lt6 : goal.returns-then-s-lt6
returns-then-s-lt6 c =
    let l = c.loop-s in
    let s = c.in-Some.ensures.steps in
    sym (left_cut (length c.args.joined.now) l.s-iterator.at c.in-Some.s.place l.text.now _ s.0 s.1.0 c.if-s-lt6.true) ∙ l.invariant.1

pub returns-in-Unknown : goal.returns-in-Unknown
returns-in-Unknown c =
    let l = c.loop-s in
    let s = c.in-Some.ensures.steps in
    let no = sym (share_unknown c.in-Some.s.place _ l.text.now _ c.in-Unknown.is) in
    sym (left-refused (length c.args.joined.now) l.s-iterator.at _ l.text.now _ s.0 s.1.0 c.if-s-lt6.false refl c.kind.ensures no) ∙ l.invariant.1

pub returns-in_err-check_share-in-Text : goal.returns-in_err-check_share-in-Text
returns-in_err-check_share-in-Text c =
    let l = c.loop-s in
    let s = c.in-Some.ensures.steps in
    let p = err_from_is_err_and c.from_residual.result c.from_residual.ensures.1 in
    let stack = take l.depth (map index l.blocks) in
    let no = sym (share-text c.in-Some.s.place _ l.text.now stack c.in-Text.is)
    ∙ verdict_refused stack (c.check_share.ensures stack) c.in_err-check_share-in-Text.was in
    rw (p.1, p.2)
    (sym (left-refused (length c.args.joined.now) l.s-iterator.at _ l.text.now stack s.0 s.1.0 c.if-s-lt6.false c.size-size.ensures.0 c.kind.ensures no)
    ∙ l.invariant.1)

pub slice_bounds-text-count : goal.slice_bounds-text-count
slice_bounds-text-count c =
    let l = c.loop-s in
    let stack = take l.depth (map index l.blocks) in
    let on = sym (share-text c.in-Some.s.place _ l.text.now stack c.in-Text.is)
    ∙ verdict_gives stack (c.check_share.ensures stack) c.in_ok-check_share-in-Text.was in
    share_fits c.in-Some.s.place _ _ l.text.now stack on

pub slice_bounds-text-start : goal.slice_bounds-text-start
slice_bounds-text-start c =
    let l = c.loop-s in
    let stack = take l.depth (map index l.blocks) in
    let on = sym (share-text c.in-Some.s.place _ l.text.now stack c.in-Text.is)
    ∙ verdict_gives stack (c.check_share.ensures stack) c.in_ok-check_share-in-Text.was in
    share_fits c.in-Some.s.place _ _ l.text.now stack on

pub loop-s-preserved-in-Text-1 : goal.loop-s-preserved-in-Text-1
loop-s-preserved-in-Text-1 c =
    let l = c.loop-s in
    let s = c.in-Some.ensures.steps in
    let stack = take l.depth (map index l.blocks) in
    let on = sym (share-text c.in-Some.s.place _ l.text.now stack c.in-Text.is)
    ∙ verdict_gives stack (c.check_share.ensures stack) c.in_ok-check_share-in-Text.was in
    let n = c.size-size.result in
    let rest = take_all (length l.text.now - n) (drop n l.text.now) (omega (arith, length-drop n l.text.now)) in
    let share = c.size-size.ensures.0 in (
      l.invariant.0,
      rw rest
          (sym (left-next (length c.args.joined.now) l.s-iterator.at _ l.text.now stack s.0 s.1.0 c.if-s-lt6.false share c.kind.ensures on s.1.1)
          ∙ l.invariant.1),
    )

pub returns-in_err-depth-in-Start : goal.returns-in_err-depth-in-Start
returns-in_err-depth-in-Start c =
    let l = c.loop-s in
    let s = c.in-Some.ensures.steps in
    let p = err_from_is_err_and c.from_residual-in_err-depth-in-Start.result c.from_residual-in_err-depth-in-Start.ensures.1 in
    let no = sym (share-start c.in-Some.s.place 0 l.text.now _ c.in-Start.is refl) ∙ c.in_err-depth-in-Start.ensures.counted in
    let bare : 0 ≡ size c.in-Some.s.head.now = omega arith in
    rw (p.1, p.2)
    (sym (left-refused (length c.args.joined.now) l.s-iterator.at _ l.text.now _ s.0 s.1.0 c.if-s-lt6.false bare c.kind.ensures no)
    ∙ l.invariant.1)

pub loop-s-preserved-then-size-eq0 : goal.loop-s-preserved-then-size-eq0
loop-s-preserved-then-size-eq0 c =
    let l = c.loop-s in
    let s = c.in-Some.ensures.steps in
    let on = sym (share-start c.in-Some.s.place 0 l.text.now _ c.in-Start.is refl) ∙ c.in_ok-depth-in-Start.ensures.counted.1 in
    let bare : 0 ≡ size c.in-Some.s.head.now = omega arith in (
      c.open_block.ensures.long,
      sym (left-next (length c.args.joined.now) l.s-iterator.at _ l.text.now _ s.0 s.1.0 c.if-s-lt6.false bare c.kind.ensures on s.1.1)
          ∙ l.invariant.1,
    )

pub returns-in_err-depth-in-End : goal.returns-in_err-depth-in-End
returns-in_err-depth-in-End c =
    let l = c.loop-s in
    let s = c.in-Some.ensures.steps in
    let p = err_from_is_err_and c.from_residual-in_err-depth-in-End.result c.from_residual-in_err-depth-in-End.ensures.1 in
    let no = sym (share-end c.in-Some.s.place 0 l.text.now _ c.in-End.is refl) ∙ c.in_err-depth-in-End.ensures.counted in
    let bare : 0 ≡ size c.in-Some.s.head.now = omega arith in
    rw (p.1, p.2)
    (sym (left-refused (length c.args.joined.now) l.s-iterator.at _ l.text.now _ s.0 s.1.0 c.if-s-lt6.false bare c.kind.ensures no)
    ∙ l.invariant.1)

pub loop-s-preserved : goal.loop-s-preserved
loop-s-preserved c =
    let l = c.loop-s in
    let s = c.in-Some.ensures.steps in
    let on = sym (share-end c.in-Some.s.place 0 l.text.now _ c.in-End.is refl) ∙ c.in_ok-depth-in-End.ensures.counted.1 in
    let bare : 0 ≡ size c.in-Some.s.head.now = omega arith in (
      l.invariant.0,
      sym (left-next (length c.args.joined.now) l.s-iterator.at _ l.text.now _ s.0 s.1.0 c.if-s-lt6.false bare c.kind.ensures on s.1.1)
          ∙ l.invariant.1,
    )

pub returns-in-Start-2 : goal.returns-in-Start-2
returns-in-Start-2 c =
    let l = c.loop-s in
    let s = c.in-Some.ensures.steps in
    let no = sym (share-start-length c.in-Some.s.place _ l.text.now _ c.in-Start.is (omega arith)) in
    sym (left-refused (length c.args.joined.now) l.s-iterator.at _ l.text.now _ s.0 s.1.0 c.if-s-lt6.false refl c.kind.ensures no) ∙ l.invariant.1

pub returns-in-Start-2-2 : goal.returns-in-Start-2-2
returns-in-Start-2-2 c =
    let l = c.loop-s in
    let s = c.in-Some.ensures.steps in
    let no = sym (share-end-length c.in-Some.s.place _ l.text.now _ c.in-End.is (omega arith)) in
    sym (left-refused (length c.args.joined.now) l.s-iterator.at _ l.text.now _ s.0 s.1.0 c.if-s-lt6.false refl c.kind.ensures no) ∙ l.invariant.1

pub returns-then-depth-ne0 : goal.returns-then-depth-ne0
returns-then-depth-ne0 c =
    let l = c.loop-s in
    let n = held_count l.blocks l.depth in
    sym (left-open _ _ _ _ c.in-None.ensures.steps.0.0 (λ z. c.if-depth-ne0.true (omega (arith, n, z, l.invariant.0)))) ∙ l.invariant.1

pub returns-then-not-is_empty : goal.returns-then-not-is_empty
returns-then-not-is_empty c =
    let l = c.loop-s in
    let none = held_count l.blocks l.depth in
    let no = left_over _ _ _ _ c.in-None.ensures.steps.0.0 (omega (arith, none, c.if-depth-ne0.false)) (eqb-false _ _ (sym c.if-not-is_empty.ensures)) in
    sym no ∙ l.invariant.1

pub returns : goal.returns
returns c =
    let l = c.loop-s in
    let none = held_count l.blocks l.depth in
    let yes = left_done _ _ _ _ c.in-None.ensures.steps.0.0 (omega (arith, none, c.if-depth-ne0.false)) (eqb-true _ _ (sym c.if-not-is_empty.ensures)) in
    sym yes ∙ l.invariant.1
