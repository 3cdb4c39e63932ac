use Rattle.compared.proofs.Names.{ℕ, ◌∙◌, get_or, length, arith, eqb}
use borrow.Author.Tests.{le-leb, lt-leb}
use Rattle.std.proofs.Common.{rules, tests}
use Rattle.std.proofs.lemmas.Iterator.{YieldsList-from_slice}
use Rattle.std.proofs.lemmas.Iterator.Consumers.{YieldsList-from_enumerate}
use Rattle.std.proofs.lemmas.Iterator.Search.{all_from_yields_List}
use Rattle.compared.proofs.Filling.{all-filled}
use Rattle.compared.proofs.holds_by.Goals.{then-text-room, else-text-room}
use Rattle.compared.proofs.holds_by.Goals as goal

pub returns : goal.returns
returns g c = λ byte gives.
    let text = c.args.text.now in
    let room = c.args.room.now in
    elim c.if-text-room.branch [
      | then-text-room w ↦
          let whole = all_from_yields_List (λ (p : ℕ × ℕ). eqb p.1 (get_or text p.0 (byte p.0))) _ _ w.all.result w.all.ensures.ran
          (YieldsList-from_enumerate (YieldsList-from_slice room cc) cc) (λ x b q k. (search (rules, tests), search (rules, tests, gives))) in
          rw (le-leb (length text) (length room) w.if-text-room.true) (w.result-is ∙ whole ∙ all-filled byte text room 0 (length room) (omega arith))
      | else-text-room w ↦
          let longer = lt-leb (length text) (length room) w.if-text-room.false in
          rw longer (w.result-is ∙ longer)
    ]
