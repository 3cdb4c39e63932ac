use mathlib.Core.Path.{refl}
use Rattle.room.proofs.Lents.{empty_test}
use Rattle.console_chunks.proofs.Page.is_empty.Goals as goal

pub returns : goal.returns
returns c = λ o e. let p = c.args.self.now in empty_test _ p.room.ghost_name p.room.now o p.len.0 refl e
