use Rattle.draft.proofs.Names.{arith, opens_block}
use Rattle.refusal.specs.declared.Refusal.TheVariants as refusal
use Rattle.draft.proofs.Holding.{opens-refused}
use Rattle.draft.proofs.Calls.{calls_refused, calls-exit, call-refused, built_refused, settled-calls, start-said, start-given}
use Rattle.draft.proofs.Draft.open_block.Goals as goal

pub returns-in_err-e : goal.returns-in_err-e
unfolding opens_block
returns-in_err-e c =
    let s = c.settled.ensures in
    calls-exit c.from_residual.result _ c.from_residual.ensures.1 (call-refused (c.args.room.now) c.args.self.length _ c.in_err-e.was s.numbers s.does)

pub returns-then-e-ge-MAX_OPEN : goal.returns-then-e-ge-MAX_OPEN
returns-then-e-ge-MAX_OPEN c =
    let a = c.args in
    settled-calls (λ n. opens_block a.room.now n a.b) c.in_ok-e.was c.settled.ensures.does
    (calls_refused (a.room.now) (refusal.TooDeep c.in_ok-e.e.length) (omega arith) (λ o. opens-refused o a.b c.if-e-ge-MAX_OPEN.true))

pub returns-in_err-next : goal.returns-in_err-next
returns-in_err-next c =
    let a = c.args in
    let p = c.put_block.ensures in
    settled-calls (λ n. opens_block a.room.now n a.b) c.in_ok-e.was c.settled.ensures.does
    (calls-exit c.from_residual-in_err-next.result _ c.from_residual-in_err-next.ensures.1
    (built_refused c.in_err-next.was p.numbers (start-said c.args.b p.does c.if-e-ge-MAX_OPEN.false c.start_kind.ensures)))

pub returns : goal.returns
returns c =
    let a = c.args in
    settled-calls (λ n. opens_block a.room.now n a.b) c.in_ok-e.was c.settled.ensures.does
    (start-given a.b c.put_block.ensures.does c.if-e-ge-MAX_OPEN.false c.start_kind.ensures c.in_ok-next.was c.after_record.ensures)
