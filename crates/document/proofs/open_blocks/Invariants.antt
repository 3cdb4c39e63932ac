use Rattle.document.proofs.Names.{◌≡◌, ◌-◌, ◌≤◌, length, take, drop, reads, open_blocks, index}
use Rattle.std.specs.Prelude.{map}
use Rattle.document.proofs.open_blocks.Given as goal

-- Invariant: the array has 32 slots, of which at most all count, and reading on from `at` with the blocks that are in those that count gives
-- what the whole document gives.
-- What falls: the bytes of the document after `at`.
abbrev pub invariant-loop-at : goal.invariant-loop-at
invariant-loop-at l =
    (length l.blocks ≡ 32) × (l.depth ≤ 32) × (reads l.at 0 (take l.depth (map index l.blocks)) (drop l.at l.document) ≡ open_blocks l.document)

abbrev pub decreases-loop-at : goal.decreases-loop-at
decreases-loop-at l = length l.document - l.at
