use Rattle.console.proofs.Names.{◌+◌, ◌-◌, ◌≡◌, length}
use Rattle.console.proofs.Writing.{Writing}
use Rattle.console.proofs.put_body.Given as goal

-- Invariant: what stands on the page, and the chunks of the body from the cursor on, give what all chunks give (Writing).
-- What falls: the bytes of the body after the cursor.

abbrev pub invariant-chunks : goal.invariant-chunks
invariant-chunks l = Writing l.set l.body l.margin.0 l.start l.initial.page l.page l.chunks.cursor × (l.chunks.input.now ≡ l.body)

abbrev pub decreases-chunks : goal.decreases-chunks
decreases-chunks l = length l.body + 1 - l.chunks.cursor.at
