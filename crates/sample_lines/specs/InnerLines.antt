-- The numbers and the text of a line of the list of samples, whose first lines tell its form. No rule of 01 stands here.
use Rattle.std.specs.Prelude.{ℕ, zero, suc, ◌+◌, ◌-◌, ◌*◌, ◌%◌, ◌^◌, Bool, ◌&&◌, List, [], ◌∷◌, length, drop, ◌==◌, nat_le, slice_index}
use Rattle.base.specs.Choice.{when◌then◌else◌, among}
use Rattle.splitter.specs.Split.{Chunk, raw, paragraph, line_break}
use Rattle.compared.specs.InnerCompared.{same}
use Rattle.sample_lines.specs.declared.Tally.{Tally}

-- a number and what follows it: decimal digits, as long as it is at most 1,000,000
unfoldable pub number_from : ℕ → List ℕ → ℕ × List ℕ
number_from value [] = (value, [])
number_from value (b ∷ s) = when among 0x30 0x39 b && nat_le value 1_000_000 then number_from (value * 10 + (b - 0x30)) s else (value, b ∷ s)

-- the number that some bytes begin with
abbrev pub number_in : List ℕ → ℕ × List ℕ
number_in s = number_from 0 s

-- the number of a line, after its letter and a space, and the one after it, one space on
abbrev pub two_numbers : List ℕ → ℕ × ℕ
two_numbers line = let first = number_in (drop 2 line) in (first.0, (number_in (drop 1 first.1)).0)

unfoldable pub hex_digit : ℕ → ℕ
hex_digit b = when among 0x30 0x39 b then b - 0x30 else when among 0x41 0x46 b then b - 0x41 + 10 else 0

-- '\ and two hexadecimal digits are one byte'; any other byte is itself. The bytes that some stand for, after `pass` more of them.
unfoldable pub written : ℕ → List ℕ → List ℕ
written pass [] = []
written (suc pass) (b ∷ s) = written pass s
written zero (b ∷ s) =
    when b == 0x5C && nat_le 2 (length s) then (hex_digit (slice_index s 0) * 16 + hex_digit (slice_index s 1)) ∷ written 2 s else
    b ∷ written 0 s

-- the text of a line, from a place on
abbrev pub text_from : List ℕ → ℕ → List ℕ
text_from line from = written 0 (drop from line)

-- the text of a line `~`, one space after the width
abbrev pub chunk_text : List ℕ → List ℕ
chunk_text line = text_from (number_in (drop 2 line)).1 1

-- '~ 1 a: the next chunk .. is `a` with width 1; P a paragraph; B a line break'
unfoldable pub is_chunk : List ℕ → Chunk → Bool
is_chunk line (raw text width) = slice_index line 0 == 0x7E && width == (number_in (drop 2 line)).0 && same text (chunk_text line)
is_chunk line paragraph = slice_index line 0 == 0x50
is_chunk line line_break = slice_index line 0 == 0x42

-- one answer more was compared
unfoldable pub tally_of : Tally → Bool → Tally
tally_of t same = record { compared = (t.compared + 1) % 2 ^ 64; differ = when same then t.differ else (t.differ + 1) % 2 ^ 64 }
