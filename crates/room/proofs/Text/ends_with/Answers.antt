use Rattle.room.proofs.Names.{refl, ◌∙◌}
use mathlib.Core.Path.{ap}
use Rattle.base.specs.Bytes.{ends_with}
use Rattle.room.proofs.Lents.{seen_given}
use Rattle.room.proofs.Text.ends_with.Goals as goal

pub returns : goal.returns
returns c =
    λ o e.
    let t = c.args.self.now in
    let stands = seen_given _ t.room.ghost_name t.room.now o t.len refl e in c.ends_with.ensures ∙ ap (ends_with (c.args.tail.now)) stands.1
