use Rattle.room.proofs.Lents.{with_both, with_same}
use Rattle.html_tags.proofs.change_style.Goals as goal

pub returns-clause-text : goal.returns-clause-text
returns-clause-text c =
    with_both _ _ _ _ _ (with_same _ _ _ _ c.style_tags.ensures.close c.put_all.ensures)
    (with_same _ _ _ _ c.style_tags-2.ensures.«open» c.put_all-2.ensures)
