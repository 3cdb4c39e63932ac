use Rattle.splitter.specs.InnerParts.{Begins}
use Rattle.splitter.proofs.word_bytes.Given as goal

-- The invariant: the word begins with the first `len` bytes, and `width` is the number of their characters.
-- What falls: as the iterator says.

abbrev pub invariant-loop-len : goal.invariant-loop-len
invariant-loop-len l = Begins l.text l.len l.width
