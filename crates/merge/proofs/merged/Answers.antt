use Rattle.std.proofs.lemmas.Result.{err_from_is_err_and}
use Rattle.merge.proofs.Names.{arith}
use Rattle.merge.proofs.Whole.{sound_accepted, sound-refused, too_long, fits_there}
use Rattle.merge.proofs.merged.Goals as goal

pub returns-in_err-refused_sides-clause-text : goal.returns-in_err-refused_sides-clause-text
returns-in_err-refused_sides-clause-text c =
    let p = err_from_is_err_and c.from_residual.result c.from_residual.ensures.1 in
    rw (p.1, p.2) (sound-refused c.refused_sides.ensures c.in_err-refused_sides.was _)

pub returns-then-len-gt-MAX_BYTES-clause-text : goal.returns-then-len-gt-MAX_BYTES-clause-text
returns-then-len-gt-MAX_BYTES-clause-text c =
    too_long (sound_accepted c.refused_sides.ensures c.in_ok-refused_sides.was) _ _ c.merge_lists-len.ensures c.if-len-gt-MAX_BYTES.true

pub returns-clause-text : goal.returns-clause-text
returns-clause-text c =
    let a = sound_accepted c.refused_sides.ensures c.in_ok-refused_sides.was in
    fits_there a _ _ c.merge_lists-len.ensures _ (omega (arith, c.if-len-gt-MAX_BYTES.false)) c.answer.ensures.text
