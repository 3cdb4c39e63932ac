-- The bytes of a record's head. Assumes nothing.
use Prim.Native.Nat.{ℕ, ◌+◌}
use mathlib.Core.Path.{◌≡◌, sym}
use mathlib.Core.List.{[], append-nil}
use Rattle.records.specs.Records.{index}
use Rattle.records.specs.Stored.{head, stored, start, end}
use Rattle.records.specs.declared.Block.{Block}

-- a record without a body is its first six bytes
pub stored-none : (k : ℕ) → stored k [] ≡ head 0 k
unfolding stored head
stored-none k = append-nil (head 0 k)

-- as a block's is
pub head-start : (b : Block) {k : ℕ} → k ≡ 0x0100 + index b → head 0 k ≡ start b
unfolding start
head-start b e = rw e (sym (stored-none (0x0100 + index b)))

pub head-end : (b : Block) {k : ℕ} → k ≡ 0x0200 + index b → head 0 k ≡ end b
unfolding end
head-end b e = rw e (sym (stored-none (0x0200 + index b)))
