use mathlib.Core.Path.{refl}
use Rattle.room.proofs.Lents.{empty_test}
use Rattle.room.proofs.Text.is_empty.Goals as goal

pub returns : goal.returns
returns c = λ o e. let t = c.args.self.now in empty_test _ t.room.ghost_name t.room.now o t.len refl e
