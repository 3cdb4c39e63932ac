use Rattle.manpage.proofs.Names.{◌≡◌, true, not, ◌&&◌, left, empty, upper, roff_of, with_escaped, heading_text, texts_valid}
use Rattle.roff_escape.specs.declared.escape.Escape.TheVariants as mode
use Rattle.manpage.proofs.put_captured.Given as goal

-- The text of the records that are left, after what went out, is all that was to go out, and is UTF-8; and whether there was any so far.

abbrev pub invariant-loop-r : goal.invariant-loop-r
invariant-loop-r l =
    (with_escaped mode.Spaces (upper (heading_text (left l.r-iterator))) (roff_of l.m)
    ≡ with_escaped mode.Spaces (upper l.fn.heading) (roff_of l.fn.m))
    × (not l.some && empty (heading_text (left l.r-iterator)) ≡ empty l.fn.heading)
    × (texts_valid (left l.r-iterator) ≡ true)
