-- What a line of the list of samples adds to a document. No rule of 01 stands here.
use Rattle.std.specs.Prelude.{ℕ, zero, suc, ◌+◌, ◌/◌, ◌%◌, List, [], ◌∷◌, ◌++◌, length, ◌==◌, nat_lt, slice_index}
use Rattle.base.specs.Choice.{when◌then◌else◌}
use Rattle.sample_lines.specs.InnerLines.{two_numbers, text_from}

-- some bytes, so many times
unfoldable pub repeated : ℕ → List ℕ → List ℕ
repeated zero x = []
repeated (suc n) x = x ++ repeated n x

-- a record's first bytes: the body's length, and the kind
abbrev pub head : ℕ → ℕ → List ℕ
head size kind = size % 256 ∷ size / 256 % 256 ∷ 0 ∷ 0 ∷ kind % 256 ∷ kind / 256 % 256 ∷ []

-- a text record
unfoldable pub text_record : ℕ → List ℕ → List ℕ
text_record kind x = head (length x) kind ++ x

-- block records: the index and how many there are stand in the line
unfoldable pub block_records : ℕ → List ℕ → List ℕ
block_records first line = repeated (two_numbers line).1 (head 0 (first + (two_numbers line).0))

-- 'T E L M I: text in style Text, Emphasis, Literal, Metavar, Invalid'; 0 for any other letter
unfoldable pub style_of : ℕ → ℕ
style_of letter =
    when letter == 0x54 then 1 else
    when letter == 0x45 then 2 else
    when letter == 0x4C then 3 else
    when letter == 0x4D then 4 else
    when letter == 0x49 then 5 else 0

-- what a line adds: text; '( 5 8: eight starts of the block with index 5, and ) 5 8 eight ends'; 'Z 10: ten zeros'; else bytes
unfoldable pub added_by : List ℕ → List ℕ
added_by line =
    when nat_lt 0 (style_of (slice_index line 0)) then text_record (style_of (slice_index line 0)) (text_from line 2) else
    when slice_index line 0 == 0x28 then block_records 0x0100 line else
    when slice_index line 0 == 0x29 then block_records 0x0200 line else
    when slice_index line 0 == 0x5A then repeated (two_numbers line).0 (0 ∷ []) else
    text_from line 2
