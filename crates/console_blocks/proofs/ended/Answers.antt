use Rattle.console_blocks.proofs.Names.{refl, arith, page_of, when◌then◌else◌, gives, ◌>>=◌, ended, outdent, tick}
use Rattle.records.specs.declared.Block.TheVariants as block
use Rattle.skip.proofs.Counter.{skip-end_most}
use Rattle.console_chunks.proofs.Pages.{ruled_two}
use Rattle.console_blocks.proofs.Blocks.{changed, ended-other}
use Rattle.console_blocks.proofs.ended.Goals as goal

pub returns-in-Section4-clause-page_after : goal.returns-in-Section4-clause-page_after
unfolding ended
returns-in-Section4-clause-page_after g c = λ fits.
    rw c.in-Section4.is
    (changed c.args.page.now (λ s. refl) (λ x. rw c.pop.ensures))

pub returns-in-ItemBody-clause-page_after : goal.returns-in-ItemBody-clause-page_after
unfolding ended
returns-in-ItemBody-clause-page_after g c = λ fits.
    rw c.in-ItemBody.is
    (changed c.args.page.now (λ s. refl) (λ x. rw c.pop.ensures))

pub returns-then-page-clause-page_after : goal.returns-then-page-clause-page_after
unfolding ended when◌then◌else◌
returns-then-page-clause-page_after g c = λ fits.
    rw c.in-Block.is
    (changed c.args.page.now (λ s. refl) (λ x. rw (c.if-page.true, c.pop.ensures)))

pub returns-else-page-clause-page_after : goal.returns-else-page-clause-page_after
unfolding ended when◌then◌else◌
returns-else-page-clause-page_after g c = λ fits.
    rw c.in-Block.is
    (changed c.args.page.now (λ s. refl) (λ x. rw (c.if-page.false, c.pop.ensures)))

pub returns-in-InlineBlock-clause-page_after : goal.returns-in-InlineBlock-clause-page_after
unfolding ended
returns-in-InlineBlock-clause-page_after g c = λ fits.
    rw c.in-InlineBlock.is
    (changed c.args.page.now (λ s. refl) (λ x. rw (c.pop-in-InlineBlock.ensures, c.pop.ensures)))

pub returns-in-InlineBlock-clause-moved : goal.returns-in-InlineBlock-clause-moved
returns-in-InlineBlock-clause-moved g c = record {
  column = omega arith;
  skip = omega (arith, c.pop-in-InlineBlock.ensures, skip-end_most block.InlineBlock c.args.page.now.lay.skip);
}

pub returns-in-TermRef-clause-page_after : goal.returns-in-TermRef-clause-page_after
unfolding ended ◌>>=◌
returns-in-TermRef-clause-page_after g c = λ fits.
    let p = c.args.page.now in
    let m = c.args.margins.now in
    rw c.in-TermRef.is
    (ruled_two (page_of p m) (page_of p c.pop.new.self) _ (λ n s. gives (outdent n s)) tick
    (changed p (λ s. refl) (λ x. rw c.pop.ensures))
    (c.put_tick.ensures.result_after fits c.pop.new.self))

pub returns-in_default : goal.returns-in_default
returns-in_default g c = let d = c.in_default in record {
  page_after = λ fits.
      changed c.args.page.now (ended-other _ c.args.b d.not-Section4 d.not-ItemBody d.not-Block d.not-InlineBlock d.not-TermRef) (λ x. rw c.pop.ensures);
  pops = c.pop.ensures;
  moved = record { column = omega arith; skip = omega arith };
}
