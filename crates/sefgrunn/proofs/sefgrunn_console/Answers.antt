use Rattle.sefgrunn.proofs.Names.{◌∙◌, length, console, Settings}
use Rattle.sefgrunn.proofs.Numbers.{rendered-number, caller_reads-gives}
use Rattle.console.proofs.Order.{demand3}
use Rattle.sefgrunn.proofs.RoomBound.{room_enough}
use Rattle.sefgrunn.proofs.sefgrunn_console.Goals as goal

pub returns : goal.returns
returns c =
    let r = c.render_console-answer in
    let a = c.args in
    let set : Settings = c.settings-set.result in
    let x = console set (length (a.room.now)) (a.document.now) in
    let n = rendered-number r.result x r.ensures.answer in
    let number = c.numbers_of.ensures.number ∙ n.0 in
    let at = c.numbers_of.ensures.at ∙ n.1 in
    let three = demand3 set (a.document.now) (a.room.now) _ _ (λ text e. caller_reads-gives x _ _ text number at e) r.ensures.room in
    rw (← c.settings-set.ensures) record {
      number = number;
      at = at;
      room = r.ensures.room;
      demand3 = three;
      enough = room_enough set (length (a.room.now)) (a.document.now) _ number;
    }
