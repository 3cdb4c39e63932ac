use Rattle.figures.proofs.Names.{refl, arith, length, take}
use Rattle.figures.proofs.Texts.{some-counted, none-counted, few_at_most, taken-lent}
use Rattle.figures.proofs.Laws.{plus-text, plus-refused}
use Rattle.figures.proofs.Figures.add.Goals as goal

pub returns-in-Ok : goal.returns-in-Ok
returns-in-Ok c =
    let a = c.args in
    let p = c.requires in
    let t = c.count_text in
    let n = c.min-most in
    let x = c.in-Ok.is in
    let r = take n.result (a.room.now) in
    let l = taken-lent (a.room.now) n.result (length (a.document.now)) c.told-room n.ensures in
    let few = few_at_most (length r) t.result _ x t.ensures.few in
    let counted = some-counted r (a.document.now) t.result l t.ensures.result_value _ x in record {
      value = plus-text a.self.now (a.document.now) _ counted;
      bounded = (refl, record { accepted = omega (arith, p.2); refused = omega (arith, p.2); characters = omega (arith, p.2, few, l) });
    }

pub returns-in-Err : goal.returns-in-Err
returns-in-Err c =
    let a = c.args in
    let p = c.requires in
    let t = c.count_text in
    let n = c.min-most in
    let r = take n.result (a.room.now) in
    let l = taken-lent (a.room.now) n.result (length (a.document.now)) c.told-room n.ensures in
    let counted = none-counted r (a.document.now) t.result l t.ensures.result_value _ c.in-Err.is in record {
      value = plus-refused a.self.now (a.document.now) _ _ counted;
      bounded = (refl, record { accepted = omega (arith, p.2); refused = omega (arith, p.2); characters = omega (arith, p.2) });
    }
