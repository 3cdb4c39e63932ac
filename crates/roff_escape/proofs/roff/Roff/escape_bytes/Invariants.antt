use Rattle.roff_escape.proofs.Names.{◌≡◌, drop, roff_of, with_escaped}
use Rattle.roff_escape.proofs.roff.Roff.escape_bytes.Given as goal

-- The bytes that are left, after what went out, are all of them.

abbrev pub invariant-loop-c : goal.invariant-loop-c
invariant-loop-c l = with_escaped l.mode (drop l.c-index l.bytes) (roff_of l.self) ≡ with_escaped l.mode l.bytes (roff_of l.initial.self)
