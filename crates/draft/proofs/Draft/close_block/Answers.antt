use Rattle.draft.proofs.Names.{arith, sym, ◌∙◌, closes_block}
use Rattle.refusal.specs.declared.Refusal.TheVariants as refusal
use Rattle.draft.proofs.Holding.{closes-not}
use Rattle.draft.proofs.Calls.{calls_refused, calls-exit, call-refused, built_refused, settled-calls, innermost-is, end-said, end-given}
use Rattle.draft.proofs.Draft.close_block.Goals as goal

pub returns-in_err-e : goal.returns-in_err-e
unfolding closes_block
returns-in_err-e c =
    let s = c.settled.ensures in
    calls-exit c.from_residual.result _ c.from_residual.ensures.1 (call-refused (c.args.room.now) c.args.self.length _ c.in_err-e.was s.numbers s.does)

pub returns-then-not-is_innermost : goal.returns-then-not-is_innermost
returns-then-not-is_innermost c =
    let a = c.args in
    settled-calls (λ n. closes_block a.room.now n a.b) c.in_ok-e.was c.settled.ensures.does
    (calls_refused a.room.now (refusal.WrongEnd c.in_ok-e.e.length) (omega arith)
    (λ o. closes-not o a.b (sym c.is_innermost.ensures ∙ c.if-not-is_innermost.true)))

pub returns-in_err-next : goal.returns-in_err-next
returns-in_err-next c =
    let a = c.args in
    let p = c.put_block.ensures in
    let n = innermost-is (sym c.is_innermost.ensures ∙ c.if-not-is_innermost.false) in
    settled-calls (λ n. closes_block a.room.now n a.b) c.in_ok-e.was c.settled.ensures.does
    (calls-exit c.from_residual-in_err-next.result _ c.from_residual-in_err-next.ensures.1 (built_refused c.in_err-next.was p.numbers
    (end-said a.b p.does n.0 n.1 c.end_kind.ensures)))

pub returns : goal.returns
returns c =
    let a = c.args in
    let n = innermost-is (sym c.is_innermost.ensures ∙ c.if-not-is_innermost.false) in
    settled-calls (λ n. closes_block a.room.now n a.b) c.in_ok-e.was c.settled.ensures.does
    (end-given a.b c.put_block.ensures.does n.0 n.1 c.end_kind.ensures c.in_ok-next.was
    c.after_record.ensures)
