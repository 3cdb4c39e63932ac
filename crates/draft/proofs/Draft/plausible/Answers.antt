use Rattle.draft.proofs.Names.{plausible, one_record, rules}
use Rattle.base.specs.Choice.{when◌then◌else◌}
use borrow.Author.Tests.{tests}
use Rattle.draft.proofs.Draft.plausible.Goals as goal

pub returns-then-length-eq0 : goal.returns-then-length-eq0
unfolding plausible one_record when◌then◌else◌
returns-then-length-eq0 c = search (rules, tests)

pub returns-else-length-eq0 : goal.returns-else-length-eq0
unfolding plausible one_record when◌then◌else◌
returns-else-length-eq0 c = search (rules, tests)
