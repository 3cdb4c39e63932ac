use Rattle.buffer_doc.proofs.Names.{start}
use Rattle.buffer_doc.proofs.Titles.{title_pasted}
use Rattle.buffer_doc.proofs.put_title.Goals as goal

pub returns : goal.returns
unfolding start
returns c =
    let a = c.args in
    title_pasted (a.room.now) c.set_block.new.room c.set_head.new.room _ a.at (a.title.now) c.requires (rw c.start_kind.ensures at c.set_block.ensures)
    (rw c.number.ensures at c.set_head.ensures) c.copy_from_slice.ensures
