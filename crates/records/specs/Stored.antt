-- Records as they are stored (01, 'The stored document'): text in a style, the start and the end of a block.
use Rattle.std.specs.Prelude.{ℕ, zero, suc, ◌+◌, ◌/◌, ◌%◌, List, [], ◌∷◌, ◌++◌, length}
use Rattle.records.specs.Records.{number, index}
use Rattle.records.specs.declared.Style.{Style}
use Rattle.records.specs.declared.Block.{Block}

-- a number as so many bytes, 'little-endian'
unfoldable pub little_bytes : ℕ → ℕ → List ℕ
little_bytes zero n = []
little_bytes (suc k) n = n % 256 ∷ little_bytes k (n / 256)

-- 'four-byte body length, two-byte kind': the first six bytes of a record
unfoldable pub head : ℕ → ℕ → List ℕ
head size k = little_bytes 4 size ++ little_bytes 2 k

-- 'four-byte body length, two-byte kind, body'
unfoldable pub stored : ℕ → List ℕ → List ℕ
stored k body = little_bytes 4 (length body) ++ little_bytes 2 k ++ body

unfoldable pub text : Style → List ℕ → List ℕ
text st body = stored (number st) body

-- 'A block's start is 0x0100 plus its index, its end 0x0200 plus it'; 'Block bodies are empty'
unfoldable pub start : Block → List ℕ
start b = stored (0x0100 + index b) []

unfoldable pub end : Block → List ℕ
end b = stored (0x0200 + index b) []

-- a block around some records
unfoldable pub around : Block → List ℕ → List ℕ
around b x = start b ++ x ++ end b
