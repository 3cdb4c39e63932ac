-- What the functions inside this crate promise each other; no rule of 01 stands here.
use Rattle.std.specs.Prelude.{ℕ, ◌+◌, ◌≤◌, ◌<◌, ◌≡◌, List, ◌++◌, length, take, drop}
use Rattle.utf8.specs.Utf8.{characters}
use Rattle.splitter.specs.Split.{line, word}
use Rattle.splitter.specs.declared.Word.{Word}

-- where the word from a place on ends, and its characters
abbrev pub word_from : List ℕ → ℕ → Word
word_from body at = record { to = at + length (word (drop at body)); width = characters (word (drop at body)) }

-- the word at the front of a text begins with the first len bytes, and width is the number of their characters
pub record Begins (text : List ℕ) (len width : ℕ) : Type 0 where
  pub within : len ≤ length text
  pub joins : word text ≡ take len text ++ word (drop len text)
  pub counts : width ≡ characters (take len text)

-- the line at the front of a text begins with the first len bytes
pub record LineBegins (text : List ℕ) (len : ℕ) : Type 0 where
  pub within : len ≤ length text
  pub reaches : length (line text) ≡ len + length (line (drop len text))

-- some bytes are those after the byte at a place of a body
abbrev pub Follows : List ℕ → ℕ → List ℕ → Type 0
Follows body at tail = (at < length body) × (tail ≡ drop (at + 1) body)
