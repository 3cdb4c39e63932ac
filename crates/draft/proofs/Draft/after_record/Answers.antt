use Rattle.draft.proofs.Names.{refl}
use Rattle.draft.proofs.Calls.{turned-text, turned_unknown, turned-start, turned-end}
use Rattle.draft.proofs.Draft.after_record.Goals as goal

pub returns-in-Text : goal.returns-in-Text
returns-in-Text c = turned-text c.in-Text.is refl refl c.number.ensures refl

pub returns-in-Start : goal.returns-in-Start
returns-in-Start c = turned-start refl refl refl c.in-Start.is c.push.ensures

pub returns-in-End : goal.returns-in-End
returns-in-End c = turned-end refl refl refl c.in-End.is c.pop.ensures

pub returns-in-Unknown : goal.returns-in-Unknown
returns-in-Unknown c = turned_unknown c.in-Unknown.is refl refl refl
