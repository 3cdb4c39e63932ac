use Rattle.buffer_doc.proofs.Names.{start, end}
use Rattle.buffer_doc.proofs.Titles.{section-pasted}
use Rattle.buffer_doc.proofs.put_section.Goals as goal

pub returns : goal.returns
unfolding start end
returns c =
    let a = c.args in
    section-pasted (a.room.now) c.set_block.new.room c.set_head.new.room c.copy_from_slice.new.room c.set_block-2.new.room _ a.at a.size (a.rest.now)
    c.requires (rw c.start_kind.ensures at c.set_block.ensures) (rw c.number.ensures at c.set_head.ensures) c.copy_from_slice.ensures
    (rw c.end_kind.ensures at c.set_block-2.ensures)
    (rw c.end_kind-2.ensures at c.set_block-3.ensures)
