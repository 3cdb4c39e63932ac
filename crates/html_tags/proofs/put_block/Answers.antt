use Rattle.html_tags.proofs.Names.{ap, sym, ◌∙◌}
use Rattle.room.specs.Lent.{text_of, with_bytes}
use Rattle.records.specs.declared.Block.TheVariants as block
use Rattle.records.proofs.Tables.{same_block}
use Rattle.html_tags.proofs.Blocks.{block-other, block_header}
use Rattle.html_tags.proofs.put_block.Goals.{then-eq, else-eq}
use Rattle.html_tags.proofs.put_block.Goals as goal

pub returns-clause-text : goal.returns-clause-text
returns-clause-text c =
    let header = c.eq.ensures ∙ same_block c.args.b block.Header in
    elim c.if-eq.branch [
      | then-eq w ↦
          block_header c.args.st.now c.args.b c.args.tag.now _ _ _ c.change_style.ensures.text _ (sym header ∙ w.if-eq.true) w.separate.ensures
          (c.put_all.ensures ∙ ap (λ t. with_bytes c.args.tag.now (text_of t)) w.t-is)
      | else-eq w ↦
          block-other c.args.st.now c.args.b c.args.tag.now _ _ _ c.change_style.ensures.text (sym header ∙ w.if-eq.false)
          (c.put_all.ensures ∙ ap (λ t. with_bytes c.args.tag.now (text_of t)) w.t-is)
    ]
