-- What the functions inside this crate promise each other; no rule of 01 stands here.
use Rattle.std.specs.Prelude.{ℕ, ◌+◌, ◌≤◌, ◌≡◌, List, ◌++◌, length, take, drop}
use Rattle.base.specs.Result.{gives}
use Rattle.records.specs.Records.{number}
use Rattle.document.specs.Document.{open_blocks}
use Rattle.records.specs.Stored.{stored}
use Rattle.records.specs.declared.Style.{Style}
use Rattle.buffer.specs.Builder.{written}

-- a document whose record at a place has another body: that which is there, and x after it
abbrev pub longer : List ℕ → ℕ → ℕ → List ℕ → List ℕ
longer s at k x = take at s ++ stored k (drop (at + 6) s ++ x)

-- 2 to 7 accept a document
pub record Accepted (s : List ℕ) : Type 0 where
  pub left : List ℕ
  pub opened : open_blocks s ≡ gives left

-- the record that written text goes into starts at r, which is the document's end where it is a new one
pub record Goes (st : Style) (s : List ℕ) (r : ℕ) : Type 0 where
  pub inside : r ≤ length s
  pub writes : (x : List ℕ) → written st x 0 s ≡ longer s r (number st) x
