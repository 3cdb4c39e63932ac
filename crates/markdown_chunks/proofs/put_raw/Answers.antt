use mathlib.Core.Path.{ap, ◌∙◌}
use native.Mathlib.Omega.{arith}
use Rattle.base.specs.Choice.{when◌then◌else◌}
use Rattle.utf8.specs.Utf8.{bytes, encode}
use Rattle.room.specs.Lent.{text_of}
use Rattle.markdown_marks.proofs.Texts.{no_bytes}
use Rattle.markdown_chunks.proofs.Texts.{raw-ticked, raw-code, raw_word, fencing_ticked, fencing_code, fencing_word}
use Rattle.markdown_chunks.proofs.put_raw.Goals.{then-not-l, else-not-l, then-l, else-l}
use Rattle.markdown_chunks.proofs.put_raw.Goals as goal

pub returns-in-1000001-clause-text : goal.returns-in-1000001-clause-text
returns-in-1000001-clause-text c = raw-ticked _ _ _ c.args.l.now c.args.text.now c.args.width c.in-1000001.is c.separate.ensures c.put_line.ensures

pub returns-after-not-l-clause-text : goal.returns-after-not-l-clause-text
unfolding bytes encode when◌then◌else◌
returns-after-not-l-clause-text c =
    raw-code _ _ _ c.args.l.now c.args.text.now c.args.width c.in-1000000.is
    (elim c.if-not-l.branch [
      | then-not-l w ↦ ap text_of w.t-is ∙ rw w.if-not-l.true w.put_all.ensures
      | else-not-l w ↦ ap text_of w.t-is ∙ rw w.if-not-l.false (no_bytes c.args.t.now)
    ])
    c.put_line-in-1000000.ensures

pub returns-after-l-clause-text : goal.returns-after-l-clause-text
unfolding bytes encode when◌then◌else◌
returns-after-l-clause-text c =
    raw_word _ _ _ c.args.l.now c.args.text.now c.args.width (omega arith) (omega arith)
    (elim c.if-l.branch [
      | then-l w ↦ ap text_of w.t-is ∙ rw w.if-l.true w.put_all-then-l.ensures
      | else-l w ↦ ap text_of w.t-is ∙ rw w.if-l.false (no_bytes c.args.t.now)
    ])
    c.put_word.ensures

pub returns-in-1000001-clause-after : goal.returns-in-1000001-clause-after
returns-in-1000001-clause-after c = fencing_ticked c.args.l.now c.args.text.now c.args.width c.in-1000001.is

pub returns-after-not-l-clause-after : goal.returns-after-not-l-clause-after
returns-after-not-l-clause-after c = fencing_code c.args.l.now c.args.text.now c.args.width c.in-1000000.is

pub returns-after-l-clause-after : goal.returns-after-l-clause-after
returns-after-l-clause-after c = fencing_word c.args.l.now c.args.text.now c.args.width (omega arith) (omega arith)
