use Rattle.roff_escape.proofs.Names.{linebreak, control0, control_name}
use Rattle.roff_escape.proofs.Composing.{pushed_then}
use Rattle.roff_escape.proofs.roff.Roff.control0.Goals as goal

pub returns : goal.returns
unfolding control0 control_name linebreak
returns c = pushed_then _ _ _ _ _ c.control_name.ensures c.roff_linebreak.ensures
