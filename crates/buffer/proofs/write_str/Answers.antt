use Rattle.buffer.proofs.Names.{sym, arith, length-take-le, writes}
use Rattle.refusal.specs.declared.Refusal.TheVariants as refusal
use Rattle.buffer.proofs.Answering.{follows-refused, follows-exit, follows_same, so_far_accepted, so_far-refused, so_far-document}
use Rattle.buffer.proofs.Answering.{writes-not, writes_in}
use Rattle.buffer.proofs.write_str.Goals as goal

pub returns-in_err-so_far : goal.returns-in_err-so_far
unfolding writes
returns-in_err-so_far c =
    follows-exit (c.args.room.now) c.from_residual.result _ c.from_residual.ensures.1
    (so_far-refused (c.args.room.now) c.args.len _ c.so_far.ensures c.in_err-so_far.was)

pub returns-then-not-valid : goal.returns-then-not-valid
returns-then-not-valid c =
    let a = c.args in
    let s = so_far_accepted c.so_far.ensures c.in_ok-so_far.was in
    follows-refused (a.room.now) (refusal.NotUtf8 0) (writes-not s a.style (a.text.now) (sym c.if-not-valid.ensures))

pub slice_bounds-last_text-end : goal.slice_bounds-last_text-end
slice_bounds-last_text-end c = (so_far_accepted c.so_far.ensures c.in_ok-so_far.was).inside

pub slice_bounds-last_text-end-2 : goal.slice_bounds-last_text-end-2
slice_bounds-last_text-end-2 c = sym (length-take-le c.args.len (c.args.room.now) (so_far_accepted c.so_far.ensures c.in_ok-so_far.was).inside)

pub last_text-last-requires : goal.last_text-last-requires
last_text-last-requires c = so_far-document (so_far_accepted c.so_far.ensures c.in_ok-so_far.was)

pub returns : goal.returns
returns c =
    let a = c.args in
    let s = so_far_accepted c.so_far.ensures c.in_ok-so_far.was in
    follows_same (writes_in s a.style (a.text.now) (sym c.if-not-valid.ensures) c.last_text-last.ensures c.number.ensures)
    (c.put_text.ensures.does (omega (arith, c.last_text-last.ensures.inside, length-take-le a.len (a.room.now) s.inside), s.inside, s.small))
