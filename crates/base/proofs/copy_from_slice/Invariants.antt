use Rattle.base.proofs.Names.{◌≡◌, paste}
use Rattle.base.proofs.copy_from_slice.Given as goal

-- the bytes before i stand in the room from `at` on, and all else is as it was

abbrev pub invariant-loop-i : goal.invariant-loop-i
invariant-loop-i l = l.room ≡ paste l.initial.room l.at l.bytes l.i
