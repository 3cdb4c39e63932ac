use Rattle.html.proofs.Names.{◌+◌, ◌-◌, length}
use Rattle.records.specs.Listed.{left}
use Rattle.html.proofs.Walked.{On, InBody}
use Rattle.html.proofs.walk.Given as goal

-- The chunks of a body: what stands there and the chunks from the cursor on, with the records after the body, give the whole.
-- What is left of the body falls.
abbrev pub invariant-chunks : goal.invariant-chunks
invariant-chunks l =
    InBody l.initial.t.room.ghost_name (length l.fn.room) l.strict l.full l.sheet l.document l.t (left l.r-iterator) l.lay l.blocks
    l.chunks.input.now l.chunks.cursor

abbrev pub decreases-chunks : goal.decreases-chunks
decreases-chunks l = length l.chunks.input.now + 1 - l.chunks.cursor.at

-- The records: what stands there and the records that are left give the whole, and the open blocks are those of the accepted document.
-- The records that are left become fewer.
abbrev pub invariant-records : goal.invariant-records
invariant-records l = On l.initial.t.room.ghost_name (length l.fn.room) l.strict l.full l.sheet l.document l.t (left l.r-iterator) l.lay l.blocks
