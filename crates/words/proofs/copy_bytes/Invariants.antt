use Rattle.words.proofs.Names.{Copying}
use Rattle.words.proofs.copy_bytes.Given as goal

-- Invariant: the bytes before `len` are copied, and `width` is the number of their characters (Copying).
-- What falls: the bytes after them.

abbrev pub invariant-loop-len : goal.invariant-loop-len
invariant-loop-len l = Copying l.text l.initial.free l.free l.len l.width
