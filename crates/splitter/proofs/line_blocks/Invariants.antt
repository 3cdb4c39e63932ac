use Rattle.splitter.proofs.Names.{◌-◌, length}
use Rattle.splitter.specs.InnerParts.{LineBegins}
use Rattle.splitter.proofs.line_blocks.Given as goal

-- The invariant: the line begins with the first `len` bytes.
-- What falls: the bytes after them, since the loop goes on after a whole block alone.

abbrev pub invariant-loop-block : goal.invariant-loop-block
invariant-loop-block l = LineBegins l.text l.len

abbrev pub decreases-loop-block : goal.decreases-loop-block
decreases-loop-block l = length l.text - l.len
