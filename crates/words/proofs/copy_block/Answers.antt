use Rattle.words.proofs.Names.{◌∙◌, arith}
use Rattle.std.proofs.Common.{take_all}
use Rattle.std.proofs.lemmas.List.{take-append-le}
use Rattle.words.proofs.copy_block.Goals as goal

pub returns-in-Some : goal.returns-in-Some
returns-in-Some c = take-append-le 16 _ _ (omega (arith, c.told-block)) ∙ take_all 16 _ (omega (arith, c.told-block))
