-- What copying a run of words promises; no rule of 01 stands here.
use Rattle.std.specs.Prelude.{ℕ, ◌+◌, ◌-◌, ◌≤◌, ◌<◌, ◌≡◌, false, List, length, take, drop, get_or}
use Rattle.base.specs.Result.{gives}
use Rattle.room.specs.Lent.{Lent}
use Rattle.utf8.specs.Utf8.{characters}
use Rattle.splitter.specs.Split.{is_line_end_or_space}

-- no line end stands from a place up to another
abbrev pub NoLineEnd : List ℕ → ℕ → ℕ → Type 0
NoLineEnd x at to = (k : ℕ) → at ≤ k → k < to → get_or x k 0 ≡ 0x0A → ⊥

-- a word does not go on across a place: where none ends there, a space stands before it
abbrev pub NoWordCut : List ℕ → ℕ → Type 0
NoWordCut x to = to < length x → is_line_end_or_space (get_or x to 0) ≡ false → get_or x (to - 1) 0 ≡ 0x20

-- The first bytes of a text x were copied; none is a line end, and `width` is the number of their characters.
pub record Copying (x old new : List ℕ) (len width : ℕ) : Type 0 where
  pub size : length new ≡ length old
  pub near : len ≤ length x
  pub plain : NoLineEnd x 0 len
  pub counts : characters (take len x) ≡ width
  pub copied : take len new ≡ take len x

-- they were copied up to a line end, if not all
abbrev pub Stopped : List ℕ → ℕ → Type 0
Stopped x len = len < length x → get_or x len 0 ≡ 0x0A

-- the block of 16 bytes at a place is the last to be copied: it has a line end, or the text ends in it
abbrev pub LastBlock : List ℕ → ℕ → Type 0
LastBlock x len = len + 16 ≤ length x → NoLineEnd x len (len + 16) → ⊥

-- The last `len` bytes of a line x are those after its last space, all of them where it has none; `width` is the number of their characters.
pub record AfterSpace (x : List ℕ) (len width : ℕ) : Type 0 where
  pub near : len ≤ length x
  pub plain : (k : ℕ) → length x - len ≤ k → k < length x → get_or x k 0 ≡ 0x20 → ⊥
  pub space : len < length x → get_or x (length x - len - 1) 0 ≡ 0x20
  pub counts : width ≡ characters (drop (length x - len) x)

-- The first bytes of a text up to `far` without the word that they cut, if they cut one; no more of them are without.
pub record Whole (x : List ℕ) (far len width : ℕ) : Type 0 where
  pub near : len ≤ far
  pub counts : characters (take len x) ≡ width
  pub whole : 0 < len → NoWordCut x len
  pub last : (k : ℕ) → len < k → k ≤ far → NoWordCut x k → ⊥

-- The first bytes of a text x, at most `most` and at most `room`, are words and spaces of one line, and no more would be; `width` is the number of
-- their characters.
pub record Words (x : List ℕ) (most room len width : ℕ) : Type 0 where
  pub near : len ≤ most
  pub within : len ≤ length x
  pub fits : len ≤ room
  pub counts : characters (take len x) ≡ width
  pub plain : NoLineEnd x 0 len
  pub whole : 0 < len → NoWordCut x len
  pub last : (k : ℕ) → len < k → k ≤ most → k ≤ length x → k ≤ room → NoLineEnd x 0 k → NoWordCut x k → ⊥

-- They were copied. Free are the bytes past those.
pub record Copies (x : List ℕ) (most : ℕ) (old new : List ℕ) (len width : ℕ) : Type 0 where
  pub words : Words x most (length old) len width
  pub copied : take len new ≡ take len x

-- They are such words where a text stands in a room with enough left; where it was refused, some that are within.
pub record Follows (x : List ℕ) (most : ℕ) (v : Lent) (len width : ℕ) : Type 0 where
  pub near : len ≤ most
  pub within : len ≤ length x
  pub counts : characters (take len x) ≡ width
  pub words : (o : List ℕ) → v.shown ≡ gives o → (length o ≤ v.size) × Words x most (v.size - length o) len width
