use Rattle.joined_check.proofs.Names.{◌≡◌, length, take}
use Rattle.std.specs.Prelude.{map}
use Rattle.records.specs.Records.{index}
use Rattle.joined_rules.specs.Joined.{reads_joined, reads_shares}
use Rattle.joined_check.specs.Listed.{left}
use Rattle.joined_check.proofs.read_shares.Given as goal

-- Invariant: the array has 32 slots, and reading on from the iterator's place with the text that is left and the blocks in the slots that count gives what the
-- whole form gives.
-- What falls: the records that are left, which the iterator counts.
abbrev pub invariant-loop-s : goal.invariant-loop-s
invariant-loop-s l =
    (length l.blocks ≡ 32)
    × (reads_shares (length l.joined) l.s-iterator.at l.text (take l.depth (map index l.blocks)) (left l.s-iterator) ≡ reads_joined l.joined)
