use Rattle.base.specs.Choice.{when◌then◌else◌}
use Rattle.sefgrunn.proofs.settings.Goals as goal

pub returns-then-characters : goal.returns-then-characters
unfolding when◌then◌else◌
returns-then-characters c = rw c.if-characters.true

pub returns-else-characters : goal.returns-else-characters
unfolding when◌then◌else◌
returns-else-characters c = rw c.if-characters.false
