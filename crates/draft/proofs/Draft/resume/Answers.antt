use Rattle.std.proofs.lemmas.Result.{err_from_is_err_and}
use Rattle.refusal.proofs.Exits.{answered-refused}
use Rattle.draft.proofs.Names.{sym, length-take-le, so_far_accepted, so_far-document}
use Rattle.buffer.proofs.Numbers.{low_so_far, low-number}
use Rattle.draft.proofs.Calls.{resumed_next}
use Rattle.draft.proofs.Draft.resume.Goals as goal

pub slice_bounds-found-end : goal.slice_bounds-found-end
slice_bounds-found-end c = sym (length-take-le c.args.len (c.args.room.now) (so_far_accepted c.so_far.ensures c.in_ok-so_far.was).inside)

pub found-requires : goal.found-requires
found-requires c = so_far-document (so_far_accepted c.so_far.ensures c.in_ok-so_far.was)

pub returns-in_err-so_far-clause-numbers : goal.returns-in_err-so_far-clause-numbers
returns-in_err-so_far-clause-numbers c =
    let p = err_from_is_err_and c.from_residual.result c.from_residual.ensures.1 in
    rw (p.1, p.2) (low-number (low_so_far (c.args.room.now) c.args.len) (answered-refused c.so_far.ensures c.in_err-so_far.was))

pub returns-clause-does : goal.returns-clause-does
returns-clause-does c = resumed_next (so_far_accepted c.so_far.ensures c.in_ok-so_far.was) c.found.ensures
