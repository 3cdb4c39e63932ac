use Rattle.base.specs.Choice.{when◌then◌else◌}
use Rattle.utf8.specs.Utf8.{bytes, encode}
use Rattle.markdown_marks.proofs.Texts.{no_bytes}
use Rattle.markdown_chunks.proofs.end_code.Goals as goal

pub returns-then-l-clause-text : goal.returns-then-l-clause-text
unfolding bytes encode when◌then◌else◌
returns-then-l-clause-text c = rw c.if-l.true c.put_all.ensures

pub returns-else-l-clause-text : goal.returns-else-l-clause-text
unfolding bytes encode when◌then◌else◌
returns-else-l-clause-text c = rw c.if-l.false (no_bytes c.args.t.now)
