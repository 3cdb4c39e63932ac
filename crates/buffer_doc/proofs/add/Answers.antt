use Rattle.std.proofs.Common.{rules}
use Rattle.std.proofs.lemmas.Result.{err_from_is_err_and}
use Rattle.buffer_doc.proofs.Names.{◌≡◌, sym, ap, arith, emphasised, Ready, made_of}
use Rattle.document.proofs.Walks.{of_gives, of_refused}
use Rattle.buffer_doc.proofs.Adding.{joins-refused, joins_added, adds_same, adds_shut, joins_made, joins_lent, joins_numbers}
use Rattle.buffer_doc.proofs.add.Goals as goal

pub returns-in_err-accepted : goal.returns-in_err-accepted
returns-in_err-accepted c =
    let a = c.args in
    let p = err_from_is_err_and c.from_residual.result c.from_residual.ensures.1 in
    let no = of_refused _ c.of.ensures c.in_err-accepted.was in
    let j = joins-refused (a.added.now) (made_of a.form (a.added.now)) (a.room.now) a.len a.depth _ no in
    rw (p.1, p.2) (record { numbers = joins_numbers j; does = λ _. j })

pub returns-then-depth-ge-MAX_OPEN : goal.returns-then-depth-ge-MAX_OPEN
returns-then-depth-ge-MAX_OPEN c =
    let a = c.args in
    let ready : Ready (a.room.now) a.len a.depth = record { inside = omega arith; small = omega arith; shallow = omega arith } in
    let j = joins_added (of_gives _ c.of.ensures c.in_ok-accepted.was).0 (adds_shut ready (made_of a.form (a.added.now)) c.if-depth-ge-MAX_OPEN.true) in
    record { numbers = joins_numbers j; does = λ r. j }

pub returns-in-EmDoc : goal.returns-in-EmDoc
returns-in-EmDoc c =
    let e : _ ≡ c.put_em_doc.new.self.room.now = search (rules, sym c.put_em_doc.ensures.room) in
    let g = of_gives _ c.of.ensures c.in_ok-accepted.was in
    let j = joins_made c.in-EmDoc.is (joins_added g.0 (adds_same (ap emphasised g.1) c.put_em_doc.ensures.adds)) in
    record { numbers = joins_numbers j; does = λ _. joins_lent e j }

pub returns-in-Doc : goal.returns-in-Doc
returns-in-Doc c =
    let e : _ ≡ c.put_doc.new.self.room.now = search (rules, sym c.put_doc.ensures.room) in
    let g = of_gives _ c.of.ensures c.in_ok-accepted.was in
    let j = joins_made c.in-Doc.is (joins_added g.0 (adds_same g.1 c.put_doc.ensures.adds)) in
    record { numbers = joins_numbers j; does = λ _. joins_lent e j }
