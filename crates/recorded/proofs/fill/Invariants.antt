use Rattle.recorded.proofs.Names.{◌≡◌, take, pattern}
use Rattle.compared.specs.InnerCompared.{filled_by}
use Rattle.recorded.proofs.fill.Given as goal

-- The bytes up to `i` are those of the room before a call.
abbrev pub invariant-loop-i : goal.invariant-loop-i
invariant-loop-i l = take l.i l.room ≡ filled_by pattern l.i l.document
