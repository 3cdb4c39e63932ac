use Rattle.records.proofs.Names.{ap, length, arith}
use Rattle.records.proofs.Reading.{read_next}
use Rattle.records.proofs.Tokens.{tokens-end}
use Rattle.records.proofs.RecordsIterator.next.Goals as goal

pub returns-then-self-place-clause-steps : goal.returns-then-self-place-clause-steps
returns-then-self-place-clause-steps c =
    let s = c.args.self.now in
    let e = tokens-end s.document.now s.at c.if-self-place.true in
    (e, e)

pub returns-clause-steps : goal.returns-clause-steps
returns-clause-steps c = read_next c.record_at-h.ensures c.if-self-place.false

pub returns-clause-goes : goal.returns-clause-goes
returns-clause-goes c =
    let e = ap length (read_next c.record_at-h.ensures c.if-self-place.false) in record {
      on = λ _. (tt, tt, omega (arith, e));
      keeps = tt;
      rests = λ _. tt;
    }
