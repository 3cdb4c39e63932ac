use borrow.Author.Rules.{rules}
use Rattle.write_calls.proofs.Laws.{empty_in}
use Rattle.write_calls.proofs.write_empty.Goals as goal

-- the four promises of `sefgrunn_write`, as they stand in its contract, are the fields of `Called`
pub returns : goal.returns
returns c =
    let call = c.sefgrunn_write.ensures in
    let law =
    empty_in (record { each = λ k. (c.slice_known-1.given k).fits })
    (record { number_is = call.number; length-is = call.length; place_is = call.place; room_is = call.room }) in record {
      number = call.number;
      length = call.length;
      place = call.place;
      room = call.room;
      empty = law;
    }
