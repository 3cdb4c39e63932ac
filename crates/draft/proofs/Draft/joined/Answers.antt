use Rattle.draft.proofs.Names.{adds_as, made_of}
use Rattle.draft.proofs.Calls.{calls-exit, call-refused, built_refused, settled-calls}
use Rattle.draft.proofs.Documents.{doc-said, doc_given}
use Rattle.draft.proofs.Draft.joined.Goals as goal

pub returns-in_err-e : goal.returns-in_err-e
unfolding adds_as
returns-in_err-e c =
    let s = c.settled.ensures in
    calls-exit c.from_residual.result _ c.from_residual.ensures.1 (call-refused (c.args.room.now) c.args.self.length _ c.in_err-e.was s.numbers s.does)

pub returns-in_err-length : goal.returns-in_err-length
returns-in_err-length c =
    let a = c.args in
    let x = a.added.now in
    let p = c.add.ensures in
    settled-calls (λ n. adds_as a.room.now n x (made_of a.form x)) c.in_ok-e.was c.settled.ensures.does
    (calls-exit c.from_residual-in_err-length.result _ c.from_residual-in_err-length.ensures.1
    (built_refused c.in_err-length.was p.numbers (doc-said x a.form p.does)))

pub returns : goal.returns
returns c =
    let a = c.args in
    let x = a.added.now in
    settled-calls (λ n. adds_as a.room.now n x (made_of a.form x)) c.in_ok-e.was c.settled.ensures.does
    (doc_given x a.form c.add.ensures.does c.in_ok-length.was c.saturating_sub.ensures)
