use Rattle.sample_lines.proofs.Names.{◌≡◌, ◌≤◌, length, number_from, number_in}
use Rattle.sample_lines.proofs.split_number.Given as goal

-- From the bytes that are left and with the value so far the rule gives what it gives from the start.
-- What is left falls.
abbrev pub invariant-loop-b : goal.invariant-loop-b
invariant-loop-b l = (number_from l.value l.rest ≡ number_in l.bytes) × (l.value ≤ 10_000_255)

abbrev pub decreases-loop-b : goal.decreases-loop-b
decreases-loop-b l = length l.rest
