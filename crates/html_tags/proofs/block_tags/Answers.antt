use Rattle.html_tags.proofs.Names.{when◌then◌else◌, bytes, encode}
use Rattle.html_tags.proofs.block_tags.Goals as goal

pub returns-in-ItemBody-2-clause-start : goal.returns-in-ItemBody-2-clause-start
unfolding bytes encode when◌then◌else◌
returns-in-ItemBody-2-clause-start c = rw (c.in-ItemBody.is, c.if-listed.false)

pub returns-in-ItemBody-2-clause-end : goal.returns-in-ItemBody-2-clause-end
unfolding bytes encode when◌then◌else◌
returns-in-ItemBody-2-clause-end c = rw (c.in-ItemBody.is, c.if-listed.false)
