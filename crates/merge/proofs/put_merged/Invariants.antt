use Rattle.merge.proofs.Names.{◌+◌, ◌-◌, length}
use Rattle.room.specs.Lent.{text_of}
use Rattle.merge.proofs.Merging.{Going}
use Rattle.merge.proofs.put_merged.Given as goal

-- What stands there, with what is left of both sides merged, is the whole merged list; each key has the term of its side's next item.
-- What is left of both sides falls.

abbrev pub invariant-loop-a : goal.invariant-loop-a
invariant-loop-a l = Going l.first l.second (text_of l.fn.t) (text_of l.t) l.a l.b

abbrev pub decreases-loop-a : goal.decreases-loop-a
decreases-loop-a l = (length l.first - l.a.at) + (length l.second - l.b.at)
