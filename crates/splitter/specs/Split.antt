-- The splitter (01, 'Port order', first paragraph; src/buffer/splitter.rs): the chunks of a body, each with the place where it begins
-- (02, point 2).
use Rattle.std.specs.Prelude.{ℕ, zero, suc, ◌+◌, ◌-◌, Bool, false, ◌&&◌, ◌||◌, List, [], ◌∷◌, eqb, length, drop}
use Rattle.base.specs.Choice.{when◌then◌else◌}
use Rattle.base.specs.Bytes.{starts_with}
use Rattle.utf8.specs.Utf8.{characters}
use Rattle.splitter.specs.declared.Code.{Code}
use Rattle.splitter.specs.declared.Code.TheVariants as code

-- A chunk: a text with its width, a paragraph, or a line break.
pub data Chunk : Type 0 where
  raw : (text : List ℕ) → (width : ℕ) → Chunk
  paragraph : Chunk
  line_break : Chunk

-- the source's `Chunk::CODE`: 'a code line, width 1,000,000'
abbrev pub chunk_code : ℕ
chunk_code = 1_000_000

-- the source's `Chunk::TICKED_CODE`: 'In ticks each line is a chunk of width 1,000,001'
abbrev pub chunk_ticked_code : ℕ
chunk_ticked_code = 1_000_001

-- the bytes before the first that passes a test
unfoldable pub before : (ℕ → Bool) → List ℕ → List ℕ
before stop [] = []
before stop (b ∷ s) = when stop b then [] else b ∷ before stop s

abbrev pub is_line_end : ℕ → Bool
is_line_end b = eqb b 0x0A

abbrev pub is_line_end_or_space : ℕ → Bool
is_line_end_or_space b = eqb b 0x0A || eqb b 0x20

abbrev pub line : List ℕ → List ℕ
line s = before is_line_end s

-- 'the word up to `\n` or space'
abbrev pub word : List ℕ → List ℕ
word s = before is_line_end_or_space s

-- some text is 'just one space'
unfoldable pub is_space : List ℕ → Bool
is_space [] = false
is_space (b ∷ []) = eqb b 0x20
is_space (b ∷ c ∷ s) = false

-- 'three backticks', 'four spaces'
abbrev pub ticks : List ℕ
ticks = 0x60 ∷ 0x60 ∷ 0x60 ∷ []

abbrev pub four : List ℕ
four = 0x20 ∷ 0x20 ∷ 0x20 ∷ 0x20 ∷ []

-- A chunk, where among some bytes it begins, how many of them it takes up, and whether the bytes after it are in ticks.
pub record Step : Type 0 where
  pub chunk : Chunk
  pub begins : ℕ
  pub used : ℕ
  pub code : Code

-- after a `\n`, which counts among the bytes:
-- '`\n` and four spaces give a code line, width 1,000,000, the next `\n` kept;
-- else `\n\n` before three backticks gives a paragraph and starts ticks;
-- before four spaces, a paragraph that consumes one `\n`;
-- else `\n\n` a paragraph;
-- `\n` and space a line break;
-- `\n` .. the chunk of one space'.
-- A code line begins after the `\n` and the four spaces; 'a paragraph, a break or a line end's space begins at its first line end'.
unfoldable pub after_line_end : List ℕ → Step
after_line_end s =
    when starts_with four s then record { chunk = raw (line (drop 4 s)) chunk_code; begins = 5; used = 5 + length (line (drop 4 s)); code = code.No } else
    when starts_with (0x0A ∷ ticks) s then record { chunk = paragraph; begins = 0; used = 2; code = code.First } else
    when starts_with (0x0A ∷ four) s then record { chunk = paragraph; begins = 0; used = 1; code = code.No } else
    when starts_with (0x0A ∷ []) s then record { chunk = paragraph; begins = 0; used = 2; code = code.No } else
    when starts_with (0x20 ∷ []) s then record { chunk = line_break; begins = 0; used = 2; code = code.No } else
    record { chunk = raw (0x20 ∷ []) 1; begins = 0; used = 1; code = code.No }

-- 'In ticks each line is a chunk of width 1,000,001, empty lines included; .. the last, and its `\n` is kept if two follow.'
unfoldable pub ticked : Bool → List ℕ → Step
ticked last s = record {
  chunk = raw (line s) chunk_ticked_code;
  begins = 0;
  used = when last && starts_with (0x0A ∷ 0x0A ∷ []) (drop (length (line s)) s) then length (line s) else length (line s) + 1;
  code = when last then code.No else code.Rest;
}

-- the first chunk of some bytes, of which there is one or more; 'a later line starting with three backticks is the last'
unfoldable pub step : Code → List ℕ → Step
step code.No s =
    when starts_with (0x0A ∷ []) s then after_line_end (drop 1 s) else
    when starts_with (0x20 ∷ []) s then record { chunk = raw (0x20 ∷ []) 1; begins = 0; used = 1; code = code.No } else
    record { chunk = raw (word s) (characters (word s)); begins = 0; used = length (word s); code = code.No }
step code.First s = ticked false s
step code.Rest s = ticked (starts_with ticks s) s

-- A chunk with the place in its body where it begins: 'each chunk should therefore say where in its body it begins'
pub record Placed : Type 0 where
  pub place : ℕ
  pub chunk : Chunk

-- the chunks of the bytes that stand at a place of a body, after `pass` more of them
unfoldable pub placed : ℕ → Code → ℕ → List ℕ → List Placed
placed at c pass [] = []
placed at c (suc pass) (b ∷ s) = placed (at + 1) c pass s
placed at c zero (b ∷ s) =
    record { place = at + (step c (b ∷ s)).begins; chunk = (step c (b ∷ s)).chunk }
    ∷ placed (at + 1) (step c (b ∷ s)).code ((step c (b ∷ s)).used - 1) s

-- 'Each body is split alone.'
unfoldable pub split : List ℕ → List Placed
split body = placed 0 code.No 0 body

-- the same chunks without their places, of some bytes after `pass` more of them
unfoldable pub chunks : Code → ℕ → List ℕ → List Chunk
chunks c pass [] = []
chunks c (suc pass) (b ∷ s) = chunks c pass s
chunks c zero (b ∷ s) = (step c (b ∷ s)).chunk ∷ chunks (step c (b ∷ s)).code ((step c (b ∷ s)).used - 1) s

-- the chunks of a body as the source hands them out, without their places
unfoldable pub chunks_of : List ℕ → List Chunk
chunks_of body = chunks code.No 0 body

-- 'the text after a given prefix .., all of it if the prefix isn't there'
unfoldable pub stripped : List ℕ → List ℕ → List ℕ
stripped prefix text = when starts_with prefix text then drop (length prefix) text else text
