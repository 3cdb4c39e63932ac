use Rattle.roff_escape.proofs.Names.{when◌then◌else◌, encode, bytes, control_name}
use Rattle.roff_escape.proofs.Composing.{pushed_then}
use Rattle.roff_escape.proofs.roff.Roff.control_name.Goals as goal

pub returns : goal.returns
unfolding control_name bytes encode when◌then◌else◌
returns c = pushed_then _ _ _ _ _ c.push.ensures c.push-2.ensures
