-- The skip counter (01, 'Port order', src/buffer.rs).
use Rattle.std.specs.Prelude.{ℕ, ◌+◌, ◌-◌, Bool, ◌&&◌, ltb, eqb}
use Rattle.base.specs.Choice.{when◌then◌else◌}
use Rattle.records.specs.Records.{index}
use Rattle.records.specs.declared.Block.{Block}

-- 'the skip counter is one number that each walk changes as it goes'. 'It hides text only': text is hidden while it is over 0.
abbrev pub hides : ℕ → Bool
hides n = ltb 0 n

-- 'a paragraph with `full` off sets it to 1'
abbrev pub skip_paragraph : ℕ → ℕ
skip_paragraph n = 1

-- 'InlineBlock's start adds 1 if it is over 0'
unfoldable pub skip_start : Block → ℕ → ℕ
skip_start b n = when eqb (index b) 8 && ltb 0 n then n + 1 else n

-- 'its end takes 1 down to 0'
unfoldable pub skip_end : Block → ℕ → ℕ
skip_end b n = when eqb (index b) 8 then n - 1 else n
