use Rattle.buffer.proofs.Names.{closes_block}
use Rattle.document.proofs.Walks.{verdict_gives, verdict_refused}
use Rattle.buffer.proofs.Answering.{follows-exit, follows_same, so_far_accepted, so_far-refused}
use Rattle.buffer.proofs.Blocks.{closes_refused, closes_in}
use Rattle.buffer.proofs.close_block.Goals as goal

pub returns-in_err-blocks : goal.returns-in_err-blocks
unfolding closes_block
returns-in_err-blocks c =
    follows-exit (c.args.room.now) c.from_residual.result _ c.from_residual.ensures.1
    (so_far-refused (c.args.room.now) c.args.len _ c.so_far.ensures c.in_err-blocks.was)

pub returns-in_err-close : goal.returns-in_err-close
returns-in_err-close c =
    let s = so_far_accepted c.so_far.ensures c.in_ok-blocks.was in
    follows-exit (c.args.room.now) c.from_residual-in_err-close.result _ c.from_residual-in_err-close.ensures.1
    (closes_refused s c.args.b (verdict_refused _ c.close.ensures.closed c.in_err-close.was))

pub returns : goal.returns
returns c =
    let s = so_far_accepted c.so_far.ensures c.in_ok-blocks.was in
    follows_same (closes_in s c.args.b (verdict_gives _ c.close.ensures.closed c.in_ok-close.was) c.end_kind.ensures) (c.put_block.ensures.does s.inside)
