use Rattle.manpage.proofs.Names.{◌≡◌, drop, upper, roff_of, with_escaped}
use Rattle.roff_escape.specs.declared.escape.Escape.TheVariants as mode
use Rattle.manpage.proofs.Capturing.{ValidFrom}
use Rattle.manpage.proofs.escape_upper.Given as goal

-- The text from i on is left, is UTF-8, and after what went out it is the whole text in upper case.

abbrev pub invariant-loop-i : goal.invariant-loop-i
invariant-loop-i l =
    ValidFrom l.bytes l.i × (with_escaped mode.Spaces (upper (drop l.i l.bytes)) (roff_of l.m) ≡ with_escaped mode.Spaces (upper l.bytes) (roff_of l.initial.m))
