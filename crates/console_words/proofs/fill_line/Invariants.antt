use Rattle.std.specs.Prelude.{◌≡◌, ◌-◌, length, take}
use Rattle.console_rules.specs.Console.{with_column}
use Rattle.console_chunks.specs.InnerShown.{text_in}
use Rattle.console_words.specs.InnerAdvance.{LineAdvance}
use Rattle.console_words.proofs.fill_line.Given as goal

-- Invariant: the words up to `at` stand in the room, and from there on the rule goes on as it does from the cursor (LineAdvance); of the lay only the
-- column is another. What falls: the bytes of the document after `at`.

abbrev pub invariant-loop-at : goal.invariant-loop-at
invariant-loop-at l =
    LineAdvance l.set (take (length l.chunks.input.now) l.tail) (text_in l.initial.page) l.initial.page.lay.column.0 l.chunks.cursor.at
    (text_in l.page) l.page.lay.column.0 l.at
    × (l.page.lay ≡ with_column l.page.lay.column.0 l.initial.page.lay)

abbrev pub decreases-loop-at : goal.decreases-loop-at
decreases-loop-at l = length l.tail - l.at
