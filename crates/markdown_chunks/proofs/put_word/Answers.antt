use Rattle.room.proofs.Lents.{with_same}
use Rattle.markdown_chunks.proofs.Texts.{word-mono, word-plain}
use Rattle.markdown_chunks.proofs.put_word.Goals as goal

pub returns-then-l-gt0 : goal.returns-then-l-gt0
returns-then-l-gt0 c = with_same _ _ _ _ (word-mono c.args.l.now c.args.text.now c.if-l-gt0.true) c.put_escaped.ensures

pub returns-else-l-gt0 : goal.returns-else-l-gt0
returns-else-l-gt0 c = with_same _ _ _ _ (word-plain c.args.l.now c.args.text.now c.if-l-gt0.false) c.put_all.ensures
