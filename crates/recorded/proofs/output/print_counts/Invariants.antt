use Rattle.std.proofs.Common.{take}
use Rattle.std.specs.List.{flat_map}
use Rattle.std.specs.Io.KnownBytes.{Appends}
use Rattle.recorded.specs.Spoken.{count_text}
use Rattle.recorded.proofs.output.print_counts.Given as goal

-- The names so far were written, each with its count.
abbrev pub invariant-loop-name : goal.invariant-loop-name
invariant-loop-name g l =
    Appends (g.W.Write.contents l.initial.writer) (g.W.Write.contents l.writer) (flat_map (count_text l.counts) (take l.name-index l.names))
