use Rattle.renderer.proofs.Names.{◌∙◌, ap, length, take, padded}
use Rattle.renderer.proofs.Clearing.{cleared}
use Rattle.renderer.proofs.cleared.Goals as goal

pub returns-clause-room : goal.returns-clause-room
returns-clause-room c =
    let r = c.args.room.now in
    cleared r _ c.args.answer (c.clear_from.ensures ∙ ap (λ n. padded (length r) (take n r)) c.unwrap_or.ensures)
