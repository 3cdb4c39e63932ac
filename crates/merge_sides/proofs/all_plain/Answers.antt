use Rattle.merge_sides.proofs.Names.{◌∙◌, rules, plain}
use borrow.Author.Tests.{tests}
use Rattle.std.proofs.lemmas.Iterator.Consumers.{YieldsList-from_first}
use Rattle.std.proofs.lemmas.Iterator.Search.{all_from_yields_List}
use Rattle.records.specs.Records.{Token}
use Rattle.records.specs.Listed.{token, left}
use Rattle.merge_sides.proofs.Filling.{plain-all}
use Rattle.merge_sides.proofs.all_plain.Goals as goal

pub returns : goal.returns
returns c =
    all_from_yields_List (λ (t : Token). plain t.kind) c.all.new.self _ c.all.result c.all.ensures.ran
    (YieldsList-from_first token left {s = c.of.result} _ c.of.ensures)
    (λ x b q k. search (rules, tests))
    ∙ plain-all _
