use Rattle.buffer.proofs.Names.{opens_block, arith}
use Rattle.document.proofs.Walks.{verdict_gives, verdict_refused}
use Rattle.buffer.proofs.Answering.{follows-exit, follows_same, so_far_accepted, so_far-refused}
use Rattle.buffer.proofs.Blocks.{opens_refused, opens_in}
use Rattle.buffer.proofs.open_block.Goals as goal

pub returns-in_err-blocks : goal.returns-in_err-blocks
unfolding opens_block
returns-in_err-blocks c =
    follows-exit (c.args.room.now) c.from_residual.result _ c.from_residual.ensures.1
    (so_far-refused (c.args.room.now) c.args.len _ c.so_far.ensures c.in_err-blocks.was)

pub returns-in_err-open : goal.returns-in_err-open
returns-in_err-open c =
    let s = so_far_accepted c.so_far.ensures c.in_ok-blocks.was in
    follows-exit (c.args.room.now) c.from_residual-in_err-open.result _ c.from_residual-in_err-open.ensures.1
    (opens_refused s c.args.b (verdict_refused _ (c.open.ensures.opened (omega arith)) c.in_err-open.was))

pub returns : goal.returns
returns c =
    let s = so_far_accepted c.so_far.ensures c.in_ok-blocks.was in
    let opened = c.open.ensures.opened (omega arith) in
    follows_same (opens_in s c.args.b (verdict_gives _ opened c.in_ok-open.was) c.start_kind.ensures) (c.put_block.ensures.does s.inside)
