use Rattle.markdown.proofs.Names.{◌+◌, ◌-◌, ◌≡◌, length}
use lib.ListN.{take}
use Rattle.records.specs.Listed.{left}
use Rattle.markdown.proofs.Walked.{On, InBody}
use Rattle.markdown.proofs.walk.Given as goal

-- The chunks of a body: what stands there and the chunks from the cursor on, with the end of the body and the records after it, give the
-- whole; and the body is the front of what stands in the document from its first byte on. What is left of the body falls.
abbrev pub invariant-chunks : goal.invariant-chunks
invariant-chunks l =
    InBody l.initial.t.room.ghost_name (length l.fn.room) l.full l.document l.t (left l.records) l.lay l.chunks.input.now l.chunks.cursor
    × (l.chunks.input.now ≡ take (length l.chunks.input.now) l.tail)

abbrev pub decreases-chunks : goal.decreases-chunks
decreases-chunks l = length l.chunks.input.now + 1 - l.chunks.cursor.at

-- The records: what stands there and the records that are left give the whole. The records that are left become fewer.
abbrev pub invariant-records : goal.invariant-records
invariant-records l = On l.initial.t.room.ghost_name (length l.fn.room) l.full l.document l.t (left l.records) l.lay

abbrev pub decreases-records : goal.decreases-records
decreases-records l = length (left l.records)
