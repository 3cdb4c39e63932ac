use Rattle.draft.proofs.Names.{sym, arith, writes}
use Rattle.refusal.specs.declared.Refusal.TheVariants as refusal
use Rattle.draft.proofs.Calls.{calls_refused, calls-exit, call-refused, built_refused, settled-calls, text-not, text-said, text-given}
use Rattle.draft.proofs.Draft.write_str.Goals as goal

pub returns-in_err-e : goal.returns-in_err-e
unfolding writes
returns-in_err-e c =
    let s = c.settled.ensures in
    calls-exit c.from_residual.result _ c.from_residual.ensures.1 (call-refused (c.args.room.now) c.args.self.length _ c.in_err-e.was s.numbers s.does)

pub returns-then-not-valid : goal.returns-then-not-valid
returns-then-not-valid c =
    let a = c.args in
    let room = a.room.now in
    settled-calls (λ n. writes room n a.style (a.text.now)) c.in_ok-e.was c.settled.ensures.does
    (calls_refused room (refusal.NotUtf8 0) (omega arith) (text-not a.style (a.text.now) (sym c.if-not-valid.ensures)))

pub returns-in_err-length : goal.returns-in_err-length
returns-in_err-length c =
    let a = c.args in
    let p = c.put_text.ensures in
    settled-calls (λ n. writes a.room.now n a.style (a.text.now)) c.in_ok-e.was c.settled.ensures.does
    (calls-exit c.from_residual-in_err-length.result _ c.from_residual-in_err-length.ensures.1 (built_refused c.in_err-length.was p.numbers
    (text-said a.style (a.text.now) (sym c.if-not-valid.ensures) c.text_at-last.ensures c.number-kind.ensures p.does)))

pub returns : goal.returns
returns c =
    let a = c.args in
    settled-calls (λ n. writes a.room.now n a.style (a.text.now)) c.in_ok-e.was c.settled.ensures.does
    (text-given a.style (a.text.now) (sym c.if-not-valid.ensures) c.text_at-last.ensures c.number-kind.ensures c.put_text.ensures.does c.in_ok-length.was)
