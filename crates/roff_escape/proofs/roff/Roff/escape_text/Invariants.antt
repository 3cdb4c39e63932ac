use Rattle.roff_escape.proofs.Names.{◌≡◌, ◌-◌, take, drop, roff_of, with_escaped, text_mode}
use Rattle.roff_escape.proofs.roff.Roff.escape_text.Given as goal

-- Invariant: the bytes from i up to `stop`, after what went out, are all that were to go out; it is the same loan, and line ends are stripped or not as before.
-- What falls: the bytes from i up to `stop`.

abbrev pub invariant-loop-i : goal.invariant-loop-i
invariant-loop-i l =
    (with_escaped (text_mode l.initial.self.strip) (drop l.i (take l.stop l.bytes)) (roff_of l.self)
    ≡ with_escaped (text_mode l.initial.self.strip) (drop l.from (take l.stop l.bytes)) (roff_of l.initial.self))
    × (l.self.strip ≡ l.initial.self.strip)

abbrev pub decreases-loop-i : goal.decreases-loop-i
decreases-loop-i l = l.stop - l.i
