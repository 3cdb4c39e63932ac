use mathlib.Core.Path.{refl}
use Rattle.base.specs.Choice.{when◌then◌else◌}
use Rattle.utf8.specs.Utf8.{bytes, encode}
use Rattle.room.proofs.Lents.{with_same}
use Rattle.markdown_chunks.proofs.Texts.{piece-paragraph, piece_break, fencing_paragraph}
use Rattle.markdown_chunks.proofs.put_chunk.Goals.{then-l, else-l}
use Rattle.markdown_chunks.proofs.put_chunk.Goals as goal

pub returns-after-l-clause-text : goal.returns-after-l-clause-text
unfolding bytes encode when◌then◌else◌
returns-after-l-clause-text c =
    piece-paragraph c.args.l.now c.args.body.now c.args.piece _ _ c.in-Paragraph.is
    (with_same _ _ _ _
    (elim c.if-l.branch [
      | then-l w ↦ rw (w.if-l.true, w.put_all-is) refl
      | else-l w ↦ rw (w.if-l.false, w.put_all-is) refl
    ])
    c.put_all.ensures)

pub returns-in-LineBreak-clause-text : goal.returns-in-LineBreak-clause-text
returns-in-LineBreak-clause-text c = piece_break c.args.l.now c.args.body.now c.args.piece _ _ c.in-LineBreak.is c.put.ensures

pub returns-after-l-clause-after : goal.returns-after-l-clause-after
returns-after-l-clause-after c = fencing_paragraph c.args.l.now c.args.body.now c.args.piece c.in-Paragraph.is
