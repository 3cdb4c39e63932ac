use Rattle.words.proofs.Names.{◌-◌, length, Copying}
use Rattle.words.proofs.copy_blocks.Given as goal

-- Invariant: the first bytes are copied, and `width` is the number of their characters (Copying).
-- What falls: the bytes after them.

abbrev pub invariant-loop-block : goal.invariant-loop-block
invariant-loop-block l = Copying l.text l.initial.free l.free l.len l.width

abbrev pub decreases-loop-block : goal.decreases-loop-block
decreases-loop-block l = length l.text - l.len
