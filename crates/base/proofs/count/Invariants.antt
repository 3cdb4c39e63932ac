use Rattle.base.proofs.Names.{ℕ, ◌≡◌, ◌≤◌, ◌+◌, ◌*◌, ◌/◌, ◌%◌, Bool, length, take, drop}
use Rattle.std.specs.List.{count_by}
use Rattle.base.specs.Tests.{AnswersAs}
use Rattle.base.proofs.count.Given as goal

-- the bytes after the whole blocks, and those of the blocks so far

abbrev pub invariant-loop-block : goal.invariant-loop-block
invariant-loop-block g l = record {
  most : l.n ≤ length l.s % 128 + l.block-index * 128;
  number : (p : ℕ → Bool) → AnswersAs (goal.F-post g) l.test p
      → l.n ≡ count_by p (drop (length l.s / 128 * 128) l.s) + count_by p (take (l.block-index * 128) l.s);
}
