use Rattle.manpage.proofs.Names.{linebreak, control, pushed_then, argument_pieces}
use Rattle.roff_escape.specs.InnerParts.{control_name}
use Rattle.manpage.proofs.control.Goals as goal

pub returns : goal.returns
unfolding control control_name argument_pieces linebreak
returns c = pushed_then _ _ _ _ _ (pushed_then _ _ _ _ _ c.control_name.ensures c.put_argument.ensures) c.roff_linebreak.ensures
