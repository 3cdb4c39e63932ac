use Rattle.buffer_doc.proofs.Names.{adds_as}
use Rattle.buffer.proofs.Answering.{follows-exit, so_far_accepted, so_far-refused}
use Rattle.buffer_doc.proofs.Adding.{adds-joined}
use Rattle.buffer_doc.proofs.joined.Goals as goal

pub returns-in_err-blocks : goal.returns-in_err-blocks
unfolding adds_as
returns-in_err-blocks c =
    follows-exit (c.args.room.now) c.from_residual.result _ c.from_residual.ensures.1
    (so_far-refused (c.args.room.now) c.args.len _ c.so_far.ensures c.in_err-blocks.was)

pub returns : goal.returns
returns c =
    adds-joined (so_far_accepted c.so_far.ensures c.in_ok-blocks.was) (c.args.added.now) _ c.depth.ensures c.add.ensures.does
