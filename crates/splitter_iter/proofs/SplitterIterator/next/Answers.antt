use Rattle.std.proofs.Common.{◌∙◌, sym, refl, arith}
use Rattle.splitter_iter.proofs.Left.{one_less}
use Rattle.splitter_iter.proofs.SplitterIterator.next.Goals as goal

pub returns-clause-goes : goal.returns-clause-goes
returns-clause-goes c =
    let p = c.in_ok-piece in
    let s = c.args.self.now in
    let less = one_less s (record { input = s.input; cursor = p.after }) (p.piece, p.after) (sym p.was ∙ c.step_at.ensures.chunk, refl) in
    record { on = λ f. (tt, tt, omega (arith, less)); keeps = tt; rests = λ f. tt }
