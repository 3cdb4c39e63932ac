use Rattle.html_lines.proofs.Names.{◌∙◌, sym}
use Rattle.std.proofs.lemmas.Bool.{eqb-true}
use Rattle.std.proofs.lemmas.List.{nil_from_length}
use Rattle.room.proofs.Lents.{with_none}
use Rattle.html_lines.proofs.put_run.Goals as goal

-- where the run is empty nothing is written
pub returns-else-not-is_empty : goal.returns-else-not-is_empty
returns-else-not-is_empty c =
    let t = c.args.t.now in
    rw (nil_from_length c.args.run.now (eqb-true _ _ (sym c.is_empty.ensures ∙ c.if-not-is_empty.false))) (sym (with_none t.room.ghost_name t.room.now t.len))
