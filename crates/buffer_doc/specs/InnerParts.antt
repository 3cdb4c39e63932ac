-- What the functions inside this crate promise each other; no rule of 01 stands here.
use Rattle.std.specs.Prelude.{ℕ, ◌+◌, ◌-◌, ◌≤◌, ◌<◌, ◌≡◌, true, List, [], ◌++◌, length, take, drop, Option, Some, None, IfSome, Result as Answer}
use Rattle.base.specs.Bytes.{part}
use Rattle.base.specs.Result.{Result, gives, refused, ◌>>=◌}
use Rattle.document.specs.Document.{reads, check, max_bytes, max_open}
use Rattle.records.specs.Stored.{head, text, start, end, around}
use Rattle.records.specs.declared.Style.TheVariants as style
use Rattle.utf8.specs.Utf8.{utf8}
use Rattle.records.specs.declared.Kind.{Kind}
use Rattle.records.specs.declared.Kind.TheVariants as kind
use Rattle.records.specs.declared.Block.TheVariants as block
use Rattle.buffer.specs.Builder.{add, emphasised}
use Rattle.buffer.specs.Answers.{Follows}
use Rattle.refusal.specs.declared.Refusal.{Refusal}
use Rattle.buffer_doc.specs.declared.Form.{Form}
use Rattle.buffer_doc.specs.declared.Form.TheVariants as form

-- how many blocks are open after a record
abbrev pub count_after : Kind → ℕ → ℕ
count_after (kind.Text st) n = n
count_after (kind.Start b) n = n + 1
count_after (kind.End b) n = n - 1
count_after kind.Unknown n = n

-- 7 at a place, or the open blocks
abbrev pub met : Option ℕ → ℕ → List ℕ → Result (List ℕ)
met (Some p) q stack = refused 7 (q + p)
met None q stack = gives stack

-- The records of a document from a place on are added, at a place that is q further, to a document with so many open blocks: 7 is met
-- at r, or nothing.
pub record Nests (s : List ℕ) (from depth : ℕ) (r : Option ℕ) : Type 0 where
  pub inside : IfSome r (λ p. p < length s)
  pub reading : (q : ℕ) (stack : List ℕ) → length stack ≡ depth → reads (q + from) 0 stack (drop from s) ≡ met r q stack

-- a room with a document so far, and how many of its blocks are open
pub record Ready (room : List ℕ) (len depth : ℕ) : Type 0 where
  pub inside : len ≤ length room
  pub small : len ≤ max_bytes
  pub shallow : depth ≤ max_open

-- records in InlineBlock were added to it, or refused, whichever blocks are open
pub record Adds (records : List ℕ) (len depth : ℕ) (old new : List ℕ) (r : Answer ℕ Refusal) : Type 0 where
  pub does : (stack : List ℕ) → length stack ≡ depth
      → Follows (add old (take len old) stack (around block.InlineBlock records)) old new r

-- what is added of a document: the document itself, or what `Doc::em_doc` makes of it
abbrev pub made_of : Form → List ℕ → List ℕ
made_of form.EmDoc x = emphasised x
made_of form.Doc x = x

-- the same after 1 to 8 of the added document
pub record Joins (x records : List ℕ) (len depth : ℕ) (old new : List ℕ) (r : Answer ℕ Refusal) : Type 0 where
  pub does : (stack : List ℕ) → length stack ≡ depth
      → Follows (check x >>= λ _. add old (take len old) stack (around block.InlineBlock records)) old new r

-- Section3 around a text of so many bytes and other records, and InlineBlock's end
unfoldable pub section : ℕ → List ℕ → List ℕ
section size rest = start block.Section3 ++ head size 0x0001 ++ rest ++ end block.Section3 ++ end block.InlineBlock

-- the first record of a document is text that ends at `next`, with a `\n` at `line`, and the document has no block left open
pub record Lines (s : List ℕ) (line next : ℕ) : Type 0 where
  pub from : 6 ≤ line
  pub before : line < next
  pub inside : next ≤ length s
  pub short : length s ≤ max_bytes
  pub title : utf8 (part s 6 line) ≡ true
  pub more : utf8 (part s (line + 1) next) ≡ true
  pub others : reads next 0 [] (drop next s) ≡ gives []

-- its first line as Emphasis, the rest of it and the other records in Section3
unfoldable pub titled : List ℕ → ℕ → ℕ → List ℕ
titled s line next = text style.Emphasis (part s 6 line) ++ around block.Section3 (text style.Text (part s (line + 1) next) ++ drop next s)
