use Rattle.runs.proofs.Names.{sym, ap, ◌∙◌, min, if_true, if_false, rules}
use Rattle.runs.proofs.Runs.{least_more, least_all}
use Rattle.runs.proofs.first_in_block.Goals.{then-test, else-test}
use Rattle.runs.proofs.first_in_block.Goals as goal

pub loop-j-preserved : goal.loop-j-preserved
loop-j-preserved g c = λ p t.
    let l = c.loop-j in
    let x = c.args.block.now in
    let same = rw c.from.ensures at (sym (t.each _ _ (search rules) c.test.ensures)) in
    least_more p x 32 (search rules) l.j l.k _ c.loop-j-test.true (l.invariant p t)
    (c.min-k.ensures ∙ ap (min l.k) (elim c.if-test.branch [
      | then-test w ↦ w.place-is ∙ sym (if_true l.j 32 (same ∙ w.if-test.true))
      | else-test w ↦ w.place-is ∙ sym (if_false l.j 32 (same ∙ w.if-test.false))
    ]))

pub returns : goal.returns
returns g c = λ p t.
    let l = c.loop-j in
    c.from-2.ensures ∙ least_all p c.args.block.now 32 (search rules) l.j l.k c.loop-j-test.false (l.invariant p t)
