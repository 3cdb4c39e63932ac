use Rattle.buffer.proofs.Names.{◌∙◌}
use Rattle.buffer.proofs.Answering.{so_far-past, so_far_long, so_far_in}
use Rattle.buffer.proofs.so_far.Goals as goal

pub returns-then-room-len : goal.returns-then-room-len
returns-then-room-len c = so_far-past (c.args.room.now) c.args.len c.if-room-len.true

pub returns-then-len-gt-MAX_BYTES : goal.returns-then-len-gt-MAX_BYTES
returns-then-len-gt-MAX_BYTES c = so_far_long (c.args.room.now) c.args.len c.if-room-len.false c.if-len-gt-MAX_BYTES.true

pub returns : goal.returns
returns c =
    c.open_blocks.ensures ∙ so_far_in (c.args.room.now) c.args.len c.if-room-len.false c.if-len-gt-MAX_BYTES.false
