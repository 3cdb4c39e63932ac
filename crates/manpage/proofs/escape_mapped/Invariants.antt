use Rattle.manpage.proofs.Names.{◌≡◌, ◌-◌, length, drop, Valid, upper, roff_of, with_escaped}
use Rattle.roff_escape.specs.declared.escape.Escape.TheVariants as mode
use Rattle.manpage.proofs.escape_mapped.Given as goal

-- Invariant: the text from i on is left, is UTF-8, and after what went out it is the whole text in upper case.
-- What falls: the bytes after i.

abbrev pub invariant-loop-i : goal.invariant-loop-i
invariant-loop-i l =
    (with_escaped mode.Spaces (upper (drop l.i l.bytes)) (roff_of l.m) ≡ with_escaped mode.Spaces (upper l.bytes) (roff_of l.initial.m))
    × Valid (drop l.i l.bytes)

abbrev pub decreases-loop-i : goal.decreases-loop-i
decreases-loop-i l = length l.bytes - l.i
