use Rattle.utf8.proofs.Names.{ap, ◌∙◌, not, ◌||◌, eqb, take, characters}
use Rattle.std.specs.List.{prefix_len}
use Rattle.utf8.proofs.Lanes.{reversed}
use Rattle.utf8.proofs.back.Goals as goal

pub returns-clause-len : goal.returns-clause-len
returns-clause-len c = c.front_of.ensures.len ∙ ap (prefix_len (λ x. not (eqb x c.args.a || eqb x c.args.a))) (reversed c.args.block.now c.told-block)

pub returns-clause-width : goal.returns-clause-width
returns-clause-width c = c.front_of.ensures.width ∙ ap (λ l. characters (take c.front_of.result.len l)) (reversed c.args.block.now c.told-block)
