use Rattle.console.proofs.Names.{ap, ◌∙◌, length, console}
use Rattle.base.specs.Result.{measured}
use Rattle.renderer.proofs.Clearing.{standing-measured}
use Rattle.console.proofs.Order.{cleared_room, demand3}
use Rattle.console.proofs.render_console.Goals as goal

pub returns : goal.returns
returns c =
    let s = c.rendered in
    let a = c.args in
    let answer = standing-measured s.new.room s.result (console a.set (length a.room.now) a.document.now) s.ensures.same s.ensures.fits in
    let room =
    cleared_room a.room.now s.new.room c.cleared.new.room s.result (console a.set (length a.room.now) a.document.now)
    s.ensures s.auto.room c.cleared.ensures.room in
    rw c.cleared.ensures.answer record {
      answer = answer;
      room = room;
      demand3 = demand3 a.set a.document.now a.room.now c.cleared.new.room _ (λ text e. answer ∙ ap measured e) room;
    }
