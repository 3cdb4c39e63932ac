use Rattle.html.proofs.Names.{extended, closed}
use Rattle.room.proofs.Lents.{wrote_after}
use Rattle.html.proofs.finish.Goals as goal

pub returns-clause-text : goal.returns-clause-text
returns-clause-text c =
    wrote_after _ _ _ (λ size. closed size c.args.st.now) (λ size. extended size c.args.sheet.now) c.change_style.ensures.text c.put_all.ensures
