use Rattle.console_chunks.proofs.Names.{ends_with}
use mathlib.Core.Path.{refl, ap}
use Rattle.std.proofs.Common.{◌∙◌}
use Rattle.room.proofs.Lents.{seen_given}
use Rattle.console_chunks.proofs.Page.ends_with.Goals as goal

pub returns : goal.returns
returns c =
    λ o e.
    let p = c.args.self.now in
    c.ends_with.ensures ∙ ap (ends_with (c.args.tail.now)) (seen_given _ p.room.ghost_name p.room.now o p.len.0 refl e).1
