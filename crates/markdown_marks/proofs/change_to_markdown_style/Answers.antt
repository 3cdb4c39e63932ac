use Rattle.room.proofs.Lents.{with_both}
use Rattle.markdown_marks.proofs.change_to_markdown_style.Goals as goal

pub returns : goal.returns
returns c = with_both _ _ _ _ _ c.put_marks.ensures c.put_marks-2.ensures
