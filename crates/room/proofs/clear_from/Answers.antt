use Rattle.room.proofs.Names.{◌-◌, arith, length}
use Rattle.room.proofs.Laws.{filled, cleared, nothing-to_clear}
use Rattle.room.proofs.clear_from.Goals as goal

pub returns-then-at-room : goal.returns-then-at-room
returns-then-at-room c =
    let r = c.args.room.now in
    let at = c.args.at in
    cleared r c.fill.new.self at (omega arith) (filled r c.fill.new.self at (length r - at) 0 (omega arith) (c.fill.ensures.after (λ y e. e)))

pub returns-else-at-room : goal.returns-else-at-room
returns-else-at-room c = nothing-to_clear c.args.room.now c.args.at c.if-at-room.false
