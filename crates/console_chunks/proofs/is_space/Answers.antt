use Rattle.console_chunks.proofs.Names.{pointwise}
use mathlib.Core.Path.{◌∙◌, ap}
use lib.Dec.{eqb}
use Rattle.console_chunks.proofs.Chunks.{space_is}
use Rattle.console_chunks.proofs.is_space.Goals as goal

pub returns : goal.returns
returns c = c.eq.ensures ∙ ap (pointwise eqb c.args.text.now) c.as_slice.ensures ∙ space_is _
