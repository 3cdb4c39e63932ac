use Rattle.merge_items.proofs.Finding.{deep-held, deep-start, deep-checked}
use Rattle.merge_items.proofs.open_after.Goals as goal

pub returns-in-Text : goal.returns-in-Text
returns-in-Text c = deep-held _ c.in-Text.is

pub returns-in-Start : goal.returns-in-Start
returns-in-Start c = deep-start _ _ c.in-Start.is

pub returns-in-End : goal.returns-in-End
returns-in-End c = deep-checked c.args.depth c.checked_sub.result c.in-End.is c.checked_sub.ensures
