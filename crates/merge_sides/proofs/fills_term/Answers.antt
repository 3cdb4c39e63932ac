use Rattle.merge_sides.proofs.Names.{sym, ◌∙◌}
use Rattle.merge_sides.proofs.Filling.{term-not-plain, term_of}
use Rattle.merge_sides.proofs.fills_term.Goals as goal

pub returns-then-all_plain : goal.returns-then-all_plain
returns-then-all_plain c = term_of _ c.fills_body.result (sym c.if-all_plain.true ∙ c.all_plain.ensures) c.fills_body.ensures

pub returns-else-all_plain : goal.returns-else-all_plain
returns-else-all_plain c = term-not-plain _ c.all_plain.result c.all_plain.ensures c.if-all_plain.false
