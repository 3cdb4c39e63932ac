use Rattle.utf8.proofs.Names.{◌≡◌, refl, ◌∙◌, ap, sym, not, false, continues}
use Rattle.utf8.specs.InnerNeighbours.{go_on}
use Rattle.utf8.proofs.Laws.{not_none, not_some}
use Rattle.utf8.proofs.Neighbours.{third_open, third_closed}
use Rattle.utf8.proofs.third_fault.Goals as goal

pub returns-then-starts_character : goal.returns-then-starts_character
returns-then-starts_character c =
    let a = c.args in
    let none = not_none _ (sym c.starts_character.ensures ∙ c.if-starts_character.true) in
    let no : go_on a.b a.c ≡ false = rw none refl in
    c.if-starts_character.true ∙ sym (ap not (third_open a.a a.b a.c c.if-a-ge224.true ∙ no))

pub returns-else-starts_character : goal.returns-else-starts_character
returns-else-starts_character c =
    let a = c.args in
    let some = not_some _ (sym c.starts_character.ensures ∙ c.if-starts_character.false) in
    let last : go_on a.b a.c ≡ continues a.c = rw some refl in
    c.starts_character-else-starts_character.ensures ∙ sym (ap not (third_open a.a a.b a.c c.if-a-ge224.true ∙ last))

pub returns : goal.returns
returns c = let a = c.args in c.fault_after.ensures ∙ ap not (sym (third_closed a.a a.b a.c c.if-a-ge224.false))
