use Rattle.merge_items.proofs.Names.{◌≡◌, tokens_from, text_to}
use Rattle.records.specs.Listed.{left}
use Rattle.room.specs.Lent.{text_of, with_bytes}
use Rattle.merge_items.proofs.key_of.Given as goal

-- The key, with the text of the records that are left, is the whole text.
-- The records that are left fall.
abbrev pub invariant-loop-r : goal.invariant-loop-r
invariant-loop-r l =
    with_bytes (text_to l.stop (left l.r-iterator)) (text_of l.key) ≡ with_bytes (text_to l.stop (tokens_from l.document l.from)) (text_of l.initial.key)
