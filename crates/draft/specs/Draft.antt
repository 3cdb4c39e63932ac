-- A draft: what a check would find out about the document that stands in the first bytes of a room, carried from call to call of the
-- builder, so that no call reads the document anew.
use Rattle.std.specs.Prelude.{ℕ, zero, suc, ◌+◌, ◌*◌, ◌/◌, ◌%◌, ◌^◌, ◌≤◌, ◌<◌, ◌≡◌, Bool, true, ◌&&◌, List, [], leb, eqb, length}
use Rattle.std.specs.Prelude.{take, drop, get_or, Result as Answer, Ok, Err}
use Rattle.base.specs.Choice.{when◌then◌else◌}
use Rattle.base.specs.Result.{Result, gives, refused, ◌>>=◌, measured}
use Rattle.base.specs.Stack.{pushed}
use Rattle.records.specs.Records.{token_at, size, number}
use Rattle.records.specs.declared.Kind.{Kind}
use Rattle.records.specs.declared.Kind.TheVariants as kind
use Rattle.document.specs.Document.{open_blocks, max_bytes, max_open}
use Rattle.refusal.specs.Numbers.{refusal_number, refusal_place}
use Rattle.refusal.specs.declared.Refusal.{Refusal}
use Rattle.buffer.specs.Builder.{so_far}
use Rattle.buffer.specs.Answers.{kept, Of01}
use Rattle.draft.specs.declared.Draft.{Draft}
use Rattle.draft.specs.declared.Packed.{Packed}

-- the draft in eight words, of which the last two say nothing: '`uint64_t draft[8]`'
abbrev pub draft_in : List ℕ → Draft
draft_in words = record {
  length = get_or words 0 0;
  last = get_or words 1 0;
  style = get_or words 2 0;
  blocks = record { depth = get_or words 3 0; inner = get_or words 4 0; outer = get_or words 5 0 };
}

-- the blocks that so many hexadecimal digits of a number name by their indices, the innermost its lowest
unfoldable pub open_in : ℕ → ℕ → List ℕ
open_in zero n = []
open_in (suc depth) n = pushed (n % 16) (open_in depth (n / 16))

-- the number in the two words of open blocks
abbrev pub digits : Packed → ℕ
digits p = p.inner + 0x1_0000_0000_0000_0000 * p.outer

-- the open blocks are these, and the words are zero beyond them
pub record Opens (p : Packed) (stack : List ℕ) : Type 0 where
  pub shallow : p.depth ≤ max_open
  pub blocks : stack ≡ open_in p.depth (digits p)
  pub low : digits p < 2 ^ (4 * p.depth)

-- the number of a text's style, or 0 where a record is no text
abbrev pub style_in : Kind → ℕ
style_in (kind.Text s) = number s
style_in (kind.Start b) = 0
style_in (kind.End b) = 0
style_in kind.Unknown = 0

-- some bytes are one record, and no more
unfoldable pub one_record : List ℕ → Bool
one_record s = eqb (length s) (6 + size s)

-- the last record of a document stands at a place, where the records before it end, and has that style; a document may have no record
pub data Last (s : List ℕ) (at style : ℕ) : Type 0 where
  none : length s ≡ 0 → style ≡ 0 → Last s at style
  stands : (before : List ℕ) → open_blocks (take at s) ≡ gives before → one_record (drop at s) ≡ true
      → style ≡ style_in (token_at at (drop at s)).kind → Last s at style

-- a draft is that of a document: 2 to 7 accept it, and its length, its open blocks and its last record are those of the draft
pub record Of (d : Draft) (s : List ℕ) : Type 0 where
  pub long : d.length ≡ length s
  pub stack : List ℕ
  pub accepted : open_blocks s ≡ gives stack
  pub opens : Opens d.blocks stack
  pub last : Last s d.last d.style

-- a draft holds of a room: it is that of the document in the room's first bytes, which is not refused with 13 or 1 either
pub record Holds (d : Draft) (room : List ℕ) : Type 0 where
  pub inside : d.length ≤ length room
  pub small : d.length ≤ max_bytes
  pub of : Of d (take d.length room)

-- the quick test: a draft may hold of a room; where it fails, the draft does not hold
unfoldable pub plausible : List ℕ → Draft → Bool
plausible room d =
    leb d.length (length room) && (leb d.length max_bytes && (leb d.blocks.depth max_open
    && (when eqb d.length 0 then true else one_record (drop d.last (take d.length room)))))

-- a draft can be built on: it holds, or the quick test shows that it does not, and then the document so far is checked
abbrev pub Sound : List ℕ → Draft → Type 0
Sound room d = plausible room d ≡ true → Holds d room

-- the answer: the new length, or the refusal's number and place
abbrev pub drafted_as : Answer Draft Refusal → Result ℕ
drafted_as (Ok d) = gives d.length
drafted_as (Err r) = refused (refusal_number r) (refusal_place r)

-- the new draft holds of the room as it is then
abbrev pub HoldsAfter : List ℕ → Answer Draft Refusal → Type 0
HoldsAfter room (Ok d) = Holds d room
HoldsAfter room (Err r) = Unit {0}

-- 'one check: 13, 1, 2 to 7': the draft of the document in the first n bytes of a room, or the document's refusal
abbrev pub Resumed : List ℕ → ℕ → Answer Draft Refusal → Type 0
Resumed room n (Ok d) = (d.length ≡ n) × Holds d room
Resumed room n (Err r) = (so_far room n >>= open_blocks) ≡ refused (refusal_number r) (refusal_place r)

-- a call does what a rule of the builder says: 'the answer, its place and every byte of the room are exactly today's builder's', and the
-- new draft holds
pub record Does (rule : Result (List ℕ)) (old new : List ℕ) (r : Answer Draft Refusal) : Type 0 where
  pub answer : drafted_as r ≡ measured rule
  pub room : new ≡ kept old rule
  pub holds : HoldsAfter new r

-- a call through a draft: it is refused only with numbers of 01, and where the draft is ready for it, it does what the rule says
pub record Calls (ready : Type 0) (rule : Result (List ℕ)) (old new : List ℕ) (r : Answer Draft Refusal) : Type 0 where
  pub numbers : Of01 (drafted_as r)
  pub does : ready → Does rule old new r
