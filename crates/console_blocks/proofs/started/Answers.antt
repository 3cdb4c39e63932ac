use Rattle.console_blocks.proofs.Names.{◌≡◌, refl, ◌+◌, arith, when◌then◌else◌, text_in, started}
use Rattle.console_chunks.proofs.Pages.{idle}
use Rattle.console_blocks.proofs.Blocks.{changed, started_line, started-none, skip_fits, skip_most}
use Rattle.console_blocks.proofs.started.Goals as goal

pub returns-in-Header-clause-page_after : goal.returns-in-Header-clause-page_after
returns-in-Header-clause-page_after g c = λ fit.
    changed c.args.page.now (λ s. started_line _ _ c.args.gap s c.in-Header.is) (λ x. rw (c.push.ensures.pushes fit.slot (omega (arith, fit.margin))))

pub returns-in-Section3-clause-page_after : goal.returns-in-Section3-clause-page_after
unfolding started
returns-in-Section3-clause-page_after g c = λ fit.
    rw c.in-Section3.is
    (changed c.args.page.now (λ s. refl) (λ x. rw (c.push-in-Section3.ensures.pushes fit.slot (omega (arith, fit.margin)))))

pub returns-then-gap-clause-page_after : goal.returns-then-gap-clause-page_after
unfolding started when◌then◌else◌
returns-then-gap-clause-page_after g c = λ fit.
    rw (c.in-Section4.is, c.if-gap.true)
    (changed c.args.page.now (λ s. refl) (λ x. rw (c.push-then-gap.ensures.pushes fit.slot (omega (arith, fit.margin)))))

pub returns-else-gap-clause-page_after : goal.returns-else-gap-clause-page_after
unfolding started when◌then◌else◌
returns-else-gap-clause-page_after g c = λ fit.
    rw (c.in-Section4.is, c.if-gap.false)
    (changed c.args.page.now (λ s. refl) (λ x. rw (c.push-else-gap.ensures.pushes fit.slot (omega (arith, fit.margin)))))

pub returns-in-ItemTerm-clause-page_after : goal.returns-in-ItemTerm-clause-page_after
unfolding started
returns-in-ItemTerm-clause-page_after g c = λ fit.
    rw c.in-ItemTerm.is
    (changed c.args.page.now (λ s. refl) (λ x. rw (c.push-in-ItemTerm.ensures.pushes fit.slot (omega (arith, fit.margin)))))

pub returns-in-ItemBody-clause-page_after : goal.returns-in-ItemBody-clause-page_after
unfolding started
returns-in-ItemBody-clause-page_after g c = λ fit.
    rw c.in-ItemBody.is
    (changed c.args.page.now (λ s. refl) (λ x.
    let t = c.plus.ensures in
    let e : c.plus.result.0 ≡ c.args.tab.0 + 2 = t.result_value (omega (arith, fit.margin)) in
    rw (c.push-in-ItemBody.ensures.pushes fit.slot (omega (arith, t.most, fit.margin)), e)))

pub returns-in-Block-clause-page_after : goal.returns-in-Block-clause-page_after
unfolding started
returns-in-Block-clause-page_after g c = λ fit.
    rw c.in-Block.is
    (changed c.args.page.now (λ s. refl) (λ x. rw (c.push-in-Block.ensures.pushes fit.slot (omega (arith, fit.margin)))))

pub returns-in-InlineBlock-clause-page_after : goal.returns-in-InlineBlock-clause-page_after
unfolding started
returns-in-InlineBlock-clause-page_after g c = λ fit.
    rw c.in-InlineBlock.is
    (changed c.args.page.now (λ s. refl) (λ x. rw (skip_fits _ _ c.push-in-InlineBlock.ensures fit.skip)))

pub returns-in-InlineBlock-clause-moved : goal.returns-in-InlineBlock-clause-moved
returns-in-InlineBlock-clause-moved g c = record { column = omega arith; skip = skip_most _ _ c.push-in-InlineBlock.ensures }

pub returns-in-TermRef-clause-page_after : goal.returns-in-TermRef-clause-page_after
unfolding started
returns-in-TermRef-clause-page_after g c = λ fit.
    rw c.in-TermRef.is (c.put_tick.ensures.result_after fit.column c.args.margins.now)

pub returns-in-DefinitionList-clause-page_after : goal.returns-in-DefinitionList-clause-page_after
returns-in-DefinitionList-clause-page_after g c = λ fit.
    idle (text_in c.args.page.now) c.args.margins.now c.args.page.now.lay _ (λ o e. started-none _ _ c.args.gap _ c.in-DefinitionList.is)
