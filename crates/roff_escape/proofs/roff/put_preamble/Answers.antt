use Rattle.roff_escape.proofs.Names.{when◌then◌else◌, encode, bytes, preamble}
use Rattle.roff_escape.proofs.roff.put_preamble.Goals as goal

pub returns : goal.returns
unfolding preamble bytes encode when◌then◌else◌
returns c = c.put_all.ensures
