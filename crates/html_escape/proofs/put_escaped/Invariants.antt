use mathlib.Core.Path.{◌≡◌}
use Rattle.room.specs.Lent.{text_of}
use Rattle.html_escape.specs.InnerParts.{entity_of}
use Rattle.html_escape.proofs.Escapes.{rest}
use Rattle.html_escape.proofs.put_escaped.Given as goal

-- What stands there, and then the escapes of the bytes that are left, is what stood there at first, and then the escapes of all bytes.
-- The bytes that are left become fewer.
abbrev pub invariant-loop-byte : goal.invariant-loop-byte
invariant-loop-byte l = rest (entity_of l.how) l.text l.byte-index (text_of l.t) ≡ rest (entity_of l.how) l.text 0 (text_of l.initial.t)
