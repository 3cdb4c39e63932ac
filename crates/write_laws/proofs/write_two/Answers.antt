use Rattle.std.proofs.lemmas.Result.{err_from_is_err_and}
use Rattle.write_laws.proofs.Two.{stops, goes_on}
use Rattle.write_laws.proofs.write_two.Goals as goal

pub returns-in_err-n : goal.returns-in_err-n
returns-in_err-n c =
    let p = err_from_is_err_and c.from_residual.result c.from_residual.ensures.1 in
    let told = stops (c.args.second.now) (record { call = c.write_str.ensures }) c.in_err-n.was in
    rw (p.1, p.2) (record { answer = told.0; room = told.1.0; joined = told.1.1 })

pub returns : goal.returns
returns c =
    let told = goes_on (c.args.second.now) (record { call = c.write_str.ensures }) c.in_ok-n.was (record { call = c.write_str-2.ensures }) in
    record { answer = told.0; room = told.1.0; joined = told.1.1 }
