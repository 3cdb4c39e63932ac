use Rattle.sample_lines.proofs.Names.{◌≡◌, same, written}
use Rattle.sample_lines.proofs.is_text.Given as goal

-- What is left of the text beside the text that is left says whether all is the same.
abbrev pub invariant-loop-b : goal.invariant-loop-b
invariant-loop-b l = same l.rest (written 0 l.b-iterator.0.now) ≡ same l.text (written 0 l.bytes)
