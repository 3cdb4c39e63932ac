use Rattle.console_blocks.proofs.Names.{◌≡◌, length, take}
use Rattle.console_blocks.proofs.Margins.of.Given as goal

-- Invariant: the margins before the place are those of the list.

abbrev pub invariant-loop-i : goal.invariant-loop-i
invariant-loop-i g l = (length l.columns ≡ g.row.N) × (take l.i l.columns ≡ take l.i l.kept)
