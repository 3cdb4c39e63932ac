use mathlib.Core.Logic.{⊎_elim}
use Rattle.markdown_marks.proofs.Names.{when◌then◌else◌, bytes, encode, ended, end_of}
use Rattle.markdown_marks.proofs.Texts.{no_bytes, ended_wrote}
use Rattle.markdown_marks.proofs.put_end.Goals as goal

pub returns-in-Header-clause-text : goal.returns-in-Header-clause-text
unfolding end_of ended bytes encode when◌then◌else◌
returns-in-Header-clause-text c =
    ended_wrote _ _ c.change_to_markdown_style.new.t c.args.b c.args.l.now c.change_to_markdown_style.ensures _
    (⊎_elim (λ e. rw e) (⊎_elim (λ e. rw e) (⊎_elim (λ e. rw e) (⊎_elim (λ e. rw e) (λ e. rw e)))) c.in-Header.is) c.put.ensures

pub returns-then-l-clause-text : goal.returns-then-l-clause-text
unfolding end_of ended bytes encode when◌then◌else◌
returns-then-l-clause-text c =
    ended_wrote _ _ c.change_to_markdown_style.new.t c.args.b c.args.l.now c.change_to_markdown_style.ensures _
    (rw (c.in-ItemBody.is, c.if-l.true)) c.put-then-l.ensures

pub returns-else-l-clause-text : goal.returns-else-l-clause-text
unfolding end_of ended when◌then◌else◌
returns-else-l-clause-text c =
    ended_wrote _ _ c.change_to_markdown_style.new.t c.args.b c.args.l.now c.change_to_markdown_style.ensures _
    (rw (c.in-ItemBody.is, c.if-l.false)) (no_bytes c.change_to_markdown_style.new.t)

pub returns-in-DefinitionList-clause-text : goal.returns-in-DefinitionList-clause-text
unfolding end_of ended bytes encode when◌then◌else◌
returns-in-DefinitionList-clause-text c =
    ended_wrote _ _ c.change_to_markdown_style.new.t c.args.b c.args.l.now c.change_to_markdown_style.ensures _
    (rw c.in-DefinitionList.is) c.put-in-DefinitionList.ensures

pub returns-in-InlineBlock-clause-text : goal.returns-in-InlineBlock-clause-text
unfolding end_of ended
returns-in-InlineBlock-clause-text c =
    ended_wrote _ _ c.change_to_markdown_style.new.t c.args.b c.args.l.now c.change_to_markdown_style.ensures _
    (rw c.in-InlineBlock.is) (no_bytes c.change_to_markdown_style.new.t)

pub returns-in-Mono-clause-text : goal.returns-in-Mono-clause-text
unfolding end_of ended
returns-in-Mono-clause-text c =
    ended_wrote _ _ c.change_to_markdown_style.new.t c.args.b c.args.l.now c.change_to_markdown_style.ensures _
    (rw c.in-Mono.is) (no_bytes c.change_to_markdown_style.new.t)

pub returns-in-ItemTerm-clause-text : goal.returns-in-ItemTerm-clause-text
unfolding end_of ended
returns-in-ItemTerm-clause-text c =
    ended_wrote _ _ c.change_to_markdown_style.new.t c.args.b c.args.l.now c.change_to_markdown_style.ensures _
    (⊎_elim (λ e. rw e) (⊎_elim (λ e. rw e) (λ e. rw e)) c.in-ItemTerm.is) (no_bytes c.change_to_markdown_style.new.t)
