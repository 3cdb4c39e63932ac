use Rattle.html_lines.proofs.Names.{arith, eq-eqb, ne_eqb}
use Rattle.room.specs.Lent.{text_of}
use Rattle.room.proofs.Lents.{with_same}
use Rattle.html_lines.proofs.Lines.{Left, left_run, left_byte, left-past, left_end}
use Rattle.html_lines.proofs.put_up_to_end.Goals.{After-put_run}
use Rattle.html_lines.proofs.put_up_to_end.Goals.{then-body-to-via-then-body-to, then-body-to-via-else-body-to+then-body-to-eq10}
use Rattle.html_lines.proofs.put_up_to_end.Goals as goal

-- after a run was copied
ran : (t : After-put_run) → Left t.args.strict t.args.body.now t.args.at (text_of t.args.t.now) (text_of t.put_run.new.t) t.run_end-to.result
ran t = left_run _ _ _ _ t.loop-i.invariant _ _ t.run_end-to.ensures (with_same _ _ _ _ t.get.ensures t.put_run.ensures)

pub loop-i-preserved : goal.loop-i-preserved
loop-i-preserved c =
    left_byte _ _ _ _ (ran (goal.at.loop-i-preserved c).After-put_run) _
    (omega (arith, c.if-body-to.false)) (ne_eqb _ _ c.if-body-to-eq10.false)
    c.put_escape.ensures

pub returns-then-body-to : goal.returns-then-body-to
returns-then-body-to c =
    let l = ran (goal.at.returns-then-body-to c).After-put_run in
    elim c.then-body-to.branch [
      | then-body-to-via-then-body-to w ↦
          let told = left-past _ _ _ _ c.put_run.new.t l w.if-body-to.true in record { text = told.0; place = told.1 }
      | then-body-to-via-else-body-to+then-body-to-eq10 w ↦
          let told = left_end _ _ _ _ c.put_run.new.t l (omega (arith, w.if-body-to.false)) (eq-eqb _ _ w.if-body-to-eq10.true) in
          record { text = told.0; place = told.1 }
    ]
