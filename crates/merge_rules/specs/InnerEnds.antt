-- Where a block ends, by the kinds of records alone: for promises between functions and for proofs; no rule of 02 stands here.
use Rattle.std.specs.Prelude.{ℕ, ◌+◌, ◌-◌, List, [], ◌∷◌, leb}
use Rattle.std.specs.Prelude.{Option, Some, None}
use Rattle.base.specs.Choice.{when◌then◌else◌}
use Rattle.records.specs.Records.{Token}
use Rattle.records.specs.declared.Kind.{Kind}
use Rattle.records.specs.declared.Kind.TheVariants as kind

-- how many blocks are open in a block after a record, unless the block ends there
unfoldable pub deeper : Kind → ℕ → Option ℕ
deeper (kind.Text st) depth = Some depth
deeper (kind.Start b) depth = Some (depth + 1)
deeper (kind.End b) depth = when leb 1 depth then Some (depth - 1) else None
deeper kind.Unknown depth = Some depth

unfoldable pub on : {A : Type 0} → Option ℕ → A → (ℕ → A) → A
on None a f = a
on (Some depth) a f = f depth

-- the place of the end record of a block, by the records from one in it on, where so many blocks are open in it; 0 where none ends it
unfoldable pub end_of : List Token → ℕ → ℕ
end_of [] depth = 0
end_of (t ∷ ts) depth = on (deeper t.kind depth) t.place (end_of ts)
