use Rattle.next_chunk.proofs.Numbers.{next_taken, next-done}
use Rattle.next_chunk.proofs.next_chunk.Goals as goal

pub returns-in-Some : goal.returns-in-Some
returns-in-Some c =
    let a = c.args in
    let s = c.step_at-step in
    next_taken a.body.now a.at a.ticks _ c.code_of-code.ensures s.result s.ensures.chunk c.in-Some.is _ c.hand.ensures

pub returns-in-None : goal.returns-in-None
returns-in-None c =
    let a = c.args in
    let s = c.step_at-step in
    let d = c.default.ensures in
    rw (d.0, d.1.1.1.0, d.1.1.1.1.0, d.1.1.1.1.1) (next-done a.body.now a.at a.ticks _ c.code_of-code.ensures s.result s.ensures.chunk c.in-None.is)
