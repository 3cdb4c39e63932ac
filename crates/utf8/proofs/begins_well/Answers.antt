use Rattle.utf8.proofs.Names.{◌∙◌, sym, get_or, arith, false≢true}
use Rattle.utf8.proofs.Laws.{not_none, not_some}
use Rattle.utf8.proofs.Neighbours.{third_closed, begun_first, begun_second, begun_third}
use Rattle.utf8.proofs.begins_well.Goals.{then-not-fault_after, else-not-fault_after}
use Rattle.utf8.proofs.begins_well.Goals as goal

pub returns-then-not-fault_after-2 : goal.returns-then-not-fault_after-2
returns-then-not-fault_after-2 c =
    let s = c.args.s.now in
    elim c.if-not-fault_after.branch [
      | then-not-fault_after w ↦
          let one = not_some _ (sym c.fault_after.ensures ∙ w.if-not-fault_after.true) in
          let two = not_some _ (sym w.fault_after-then-not-fault_after.ensures ∙ not_none _ (sym w.value-is ∙ c.if-not-fault_after-2.true)) in
          begun_third s c.requires (third_closed 0 0 (get_or s 0 0) (omega arith) ∙ one) (third_closed 0 (get_or s 0 0) (get_or s 1 0) (omega arith) ∙ two)
          c.third_fault.ensures
      | else-not-fault_after w ↦ absurd (false≢true (sym (not_none _ (sym w.value-is ∙ c.if-not-fault_after-2.true)) ∙ w.if-not-fault_after.false))
    ]

pub returns-else-not-fault_after-2 : goal.returns-else-not-fault_after-2
returns-else-not-fault_after-2 c =
    let s = c.args.s.now in
    let none = c.if-not-fault_after-2.false in
    rw none (elim c.if-not-fault_after.branch [
      | then-not-fault_after w ↦
          let two = not_none _ (sym w.fault_after-then-not-fault_after.ensures ∙ not_some _ (sym w.value-is ∙ none)) in
          begun_second s c.requires (third_closed 0 (get_or s 0 0) (get_or s 1 0) (omega arith) ∙ two)
      | else-not-fault_after w ↦
          let one = not_none _ (sym c.fault_after.ensures ∙ w.if-not-fault_after.false) in
          begun_first s c.requires (third_closed 0 0 (get_or s 0 0) (omega arith) ∙ one)
    ])
