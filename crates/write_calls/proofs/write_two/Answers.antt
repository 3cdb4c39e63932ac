use borrow.Author.Rules.{rules}
use Rattle.write_calls.proofs.Laws.{stops, goes_on}
use Rattle.write_calls.proofs.write_two.Goals as goal

-- the four promises of `sefgrunn_write`, as they stand in its contract, are the fields of `Called`
pub returns-then-number-ne0 : goal.returns-then-number-ne0
returns-then-number-ne0 c =
    let args = c.args in
    let one = c.sefgrunn_write-number.ensures in
    let told = stops args.second.now (record { number_is = one.number; length-is = one.length; place_is = one.place; room_is = one.room })
    c.if-number-ne0.true in record {
      number = told.0;
      length = told.1.0;
      place = told.1.1.0;
      room = told.1.1.1.0;
      joined = told.1.1.1.1;
    }

pub returns : goal.returns
returns c =
    let first = c in
    let args = first.args in
    let one = first.sefgrunn_write-number.ensures in
    let two = c.sefgrunn_write.ensures in
    let told = goes_on args.second.now (record { number_is = one.number; length-is = one.length; place_is = one.place; room_is = one.room })
    first.if-number-ne0.false
    (record { number_is = two.number; length-is = two.length; place_is = two.place; room_is = two.room }) in record {
      number = told.0;
      length = told.1.0;
      place = told.1.1.0;
      room = told.1.1.1.0;
      joined = told.1.1.1.1;
    }
