use mathlib.Core.Bool.{true, false}
use mathlib.Core.Logic.{⊎_elim}
use Rattle.markdown_marks.proofs.Names.{refl, ap, ◌∙◌, text_of, when◌then◌else◌, bytes, encode, with_style, started, start_of}
use Rattle.records.specs.declared.Style.TheVariants as style
use Rattle.markdown_marks.proofs.Texts.{no_bytes, term_texts, started_wrote, started_line, started_only, started_none}
use Rattle.markdown_marks.proofs.Flags.{inline-start}
use Rattle.markdown_marks.proofs.put_start.Goals.{then-l, else-l, then-l-2, else-l-2, then-l-3, else-l-3, then-l-4, else-l-4}
use Rattle.markdown_marks.proofs.put_start.Goals as goal

pub returns-after-l-clause-text : goal.returns-after-l-clause-text
unfolding start_of started bytes encode when◌then◌else◌
returns-after-l-clause-text c =
    started_line _ _ c.change_to_markdown_style.new.t c.args.b c.args.l.now c.change_to_markdown_style.ensures _ _ _
    (elim c.if-l.branch [
      | then-l w ↦ rw (c.in-Header.is, w.if-l.true, w.put_all-is) (refl, refl, refl)
      | else-l w ↦ rw (c.in-Header.is, w.if-l.false, w.put_all-is) (refl, refl, refl)
    ])
    c.separate.ensures c.put_all.ensures

pub returns-after-l-2-clause-text : goal.returns-after-l-2-clause-text
unfolding start_of started bytes encode when◌then◌else◌
returns-after-l-2-clause-text c =
    let s = c.change_to_markdown_style in
    elim c.if-l-2.branch [
      | then-l-2 w ↦
          started_wrote _ _ s.new.t c.args.b c.args.l.now s.ensures _ _ _ _ _
          (elim w.if-l-3.branch [
            | then-l-3 x ↦ rw (c.in-ItemBody.is, w.if-l-2.true, x.if-l-3.true, x.put_all-is) (refl, refl, refl)
            | else-l-3 x ↦ rw (c.in-ItemBody.is, w.if-l-2.true, x.if-l-3.false, x.put_all-is) (refl, refl, refl)
          ])
          (ap text_of w.t-is ∙ w.put_all-then-l-2.ensures) c.separate-in-ItemBody.ensures c.put_all-in-ItemBody.ensures
      | else-l-2 w ↦
          started_wrote _ _ s.new.t c.args.b c.args.l.now s.ensures _ _ _ _ _ (rw (c.in-ItemBody.is, w.if-l-2.false) (refl, refl, refl))
          (ap text_of w.t-is ∙ no_bytes s.new.t) c.separate-in-ItemBody.ensures c.put_all-in-ItemBody.ensures
    ]

pub returns-after-l-4-clause-text : goal.returns-after-l-4-clause-text
unfolding start_of started bytes encode when◌then◌else◌
returns-after-l-4-clause-text c =
    started_line _ _ c.change_to_markdown_style.new.t c.args.b c.args.l.now c.change_to_markdown_style.ensures _ _ _
    (elim c.if-l-4.branch [
      | then-l-4 w ↦ rw w.put_all-is (term_texts c.args.b (with_style style.Text c.args.l.now) c.in-Section4.is true w.if-l-4.true)
      | else-l-4 w ↦ rw w.put_all-is (term_texts c.args.b (with_style style.Text c.args.l.now) c.in-Section4.is false w.if-l-4.false)
    ])
    c.separate-in-Section4.ensures c.put_all-in-Section4.ensures

pub returns-in-Section3-clause-text : goal.returns-in-Section3-clause-text
unfolding start_of started bytes encode when◌then◌else◌
returns-in-Section3-clause-text c =
    started_only _ _ c.change_to_markdown_style.new.t c.args.b c.args.l.now c.change_to_markdown_style.ensures _
    (rw c.in-Section3.is (refl, refl, refl)) c.put_all-in-Section3.ensures

pub returns-in-Block-clause-text : goal.returns-in-Block-clause-text
unfolding start_of started bytes encode when◌then◌else◌
returns-in-Block-clause-text c =
    started_only _ _ c.change_to_markdown_style.new.t c.args.b c.args.l.now c.change_to_markdown_style.ensures _
    (rw c.in-Block.is (refl, refl, refl)) c.put_all-in-Block.ensures

pub returns-in-DefinitionList-clause-text : goal.returns-in-DefinitionList-clause-text
unfolding start_of started
returns-in-DefinitionList-clause-text c =
    started_none _ _ c.change_to_markdown_style.new.t c.args.b c.args.l.now c.change_to_markdown_style.ensures refl
    (rw c.in-DefinitionList.is (refl, refl, refl))

pub returns-in-InlineBlock-clause-text : goal.returns-in-InlineBlock-clause-text
unfolding start_of started
returns-in-InlineBlock-clause-text c =
    started_none _ _ c.change_to_markdown_style.new.t c.args.b c.args.l.now c.change_to_markdown_style.ensures refl
    (rw c.in-InlineBlock.is (refl, refl, refl))

pub returns-in-InlineBlock-clause-after : goal.returns-in-InlineBlock-clause-after
returns-in-InlineBlock-clause-after c f =
    inline-start c.args.b (with_style style.Text c.args.l.now) f.skipped _ c.in-InlineBlock.is c.push.ensures

pub returns-in-Mono-clause-text : goal.returns-in-Mono-clause-text
unfolding start_of started
returns-in-Mono-clause-text c =
    started_none _ _ c.change_to_markdown_style.new.t c.args.b c.args.l.now c.change_to_markdown_style.ensures refl
    (rw c.in-Mono.is (refl, refl, refl))

pub returns-in-Section2-clause-text : goal.returns-in-Section2-clause-text
unfolding start_of started
returns-in-Section2-clause-text c =
    started_none _ _ c.change_to_markdown_style.new.t c.args.b c.args.l.now c.change_to_markdown_style.ensures refl
    (⊎_elim (λ e. rw e (refl, refl, refl)) (⊎_elim (λ e. rw e (refl, refl, refl)) (λ e. rw e (refl, refl, refl))) c.in-Section2.is)
