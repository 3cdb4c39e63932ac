use Rattle.notes.proofs.Names.{arith, sym}
use Rattle.notes.proofs.Scans.{line-none, line-one}
use Rattle.notes.proofs.line_length.Goals as goal

pub returns-in-10-2 : goal.returns-in-10-2
returns-in-10-2 c = sym (line-one c.args.s.now (omega arith) (λ e. omega arith) (omega arith))

pub returns-in-10 : goal.returns-in-10
returns-in-10 c = sym (line-none c.args.s.now (omega arith))

pub returns-in-10-3 : goal.returns-in-10-3
returns-in-10-3 c = sym (line-none c.args.s.now (omega arith))
