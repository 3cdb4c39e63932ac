use Rattle.joined_check.proofs.Names.{ap, ◌∙◌}
use Rattle.records.specs.Records.{kind_of}
use Rattle.joined_rules.specs.Joined.{head_kind}
use Rattle.joined_check.proofs.Share.kind.Goals as goal

pub returns : goal.returns
returns c = unfold head_kind in c.from.ensures ∙ ap kind_of c.two.ensures.0
