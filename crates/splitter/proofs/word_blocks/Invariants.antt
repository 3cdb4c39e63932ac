use Rattle.splitter.proofs.Names.{◌-◌, length}
use Rattle.splitter.specs.InnerParts.{Begins}
use Rattle.splitter.proofs.word_blocks.Given as goal

-- The invariant: the word begins with the first `len` bytes, and `width` is the number of their characters.
-- What falls: the bytes after them, since the loop goes on after a whole block alone.

abbrev pub invariant-loop-block : goal.invariant-loop-block
invariant-loop-block l = Begins l.text l.len l.width

abbrev pub decreases-loop-block : goal.decreases-loop-block
decreases-loop-block l = length l.text - l.len
