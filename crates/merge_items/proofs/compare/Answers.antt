use Rattle.merge_items.proofs.Names.{◌∙◌}
use Rattle.merge_items.proofs.Texts.{slices-compared}
use Rattle.merge_items.proofs.compare.Goals as goal

pub returns : goal.returns
returns c = c.cmp.ensures ∙ slices-compared (c.args.a.now) (c.args.b.now)
