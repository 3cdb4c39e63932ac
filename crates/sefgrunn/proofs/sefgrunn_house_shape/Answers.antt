use Rattle.std.proofs.Common.{rules}
use Rattle.sefgrunn.proofs.HouseShape.{told}
use Rattle.sefgrunn.proofs.sefgrunn_house_shape.Goals as goal

pub returns : goal.returns
returns c =
    let n = c.numbers_of.ensures in
    rw (n.number, c.from.ensures, c.eq.ensures, n.at)
    (told _ _ c.map.result c.house_shape-answer.ensures c.map.ensures.cases (λ x n h. search rules))
