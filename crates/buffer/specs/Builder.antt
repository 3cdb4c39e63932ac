-- The builder (01, 'The builder writes ..', and 'Port order', `src/buffer.rs`): a document whose blocks may be open stands in the first
-- bytes of a room, and a call gives the document after it, or a refusal.
use Rattle.std.specs.Prelude.{ℕ, zero, suc, ◌+◌, Bool, false, ◌&&◌, List, [], ◌∷◌, ◌++◌, leb, eqb, length, take, drop}
use Rattle.base.specs.Choice.{when◌then◌else◌}
use Rattle.base.specs.Result.{Result, gives, refused, ◌>>=◌}
use Rattle.utf8.specs.Utf8.{utf8}
use Rattle.splitter.specs.Split.{line}
use Rattle.records.specs.Records.{token_at, size, number}
use Rattle.document.specs.Document.{reads, open_blocks, short, check, max_bytes}
use Rattle.records.specs.Stored.{text, start, end, around}
use Rattle.records.specs.declared.Style.{Style}
use Rattle.records.specs.declared.Style.TheVariants as style
use Rattle.records.specs.declared.Block.{Block}
use Rattle.records.specs.declared.Block.TheVariants as block
use Rattle.records.specs.declared.Kind.{Kind}
use Rattle.records.specs.declared.Kind.TheVariants as kind

-- 'text of that style'
abbrev pub is_text : Style → Kind → Bool
is_text st (kind.Text x) = eqb (number x) (number st)
is_text st (kind.Start b) = false
is_text st (kind.End b) = false
is_text st kind.Unknown = false

-- some bytes are one record, and it is text of that style
unfoldable pub one_text : Style → List ℕ → Bool
one_text st s = eqb (length s) (6 + size s) && is_text st (token_at 0 s).kind

-- 'Writing lengthens the last record if it is text of that style, else adds one, even for empty text': x written after some bytes,
-- which are read as in `tokens`
unfoldable pub written : Style → List ℕ → ℕ → List ℕ → List ℕ
written st x pass [] = text st x
written st x (suc pass) (b ∷ s) = b ∷ written st x pass s
written st x zero (b ∷ s) =
    when one_text st (b ∷ s) then text st ((token_at 0 (b ∷ s)).body ++ x) else b ∷ written st x (5 + size (b ∷ s)) s

-- 'the part before its first `\n` becomes Emphasis, the part after it Text inside Section3 followed by the other records; with no
-- `\n`, the other records are dropped'
unfoldable pub first_line : List ℕ → List ℕ → List ℕ
first_line x others =
    when eqb (length (line x)) (length x) then text style.Emphasis x else
    text style.Emphasis (line x) ++ around block.Section3 (text style.Text (drop (length (line x) + 1) x) ++ others)

-- what `Doc::em_doc` makes of a document: 'if the first record is style Text, ..'
unfoldable pub emphasised : List ℕ → List ℕ
emphasised [] = []
emphasised (b ∷ s) =
    when is_text style.Text (token_at 0 (b ∷ s)).kind
    then first_line (token_at 0 (b ∷ s)).body (drop (6 + size (b ∷ s)) (b ∷ s))
    else b ∷ s

-- '13 when the length so far passes the room, then 1 .. of the document so far'
unfoldable pub so_far : List ℕ → ℕ → Result (List ℕ)
so_far room n = when leb n (length room) then short (take n room) else refused 13 0

-- '13 when the result exceeds the room or 32,768 bytes'
unfoldable pub fit : List ℕ → List ℕ → Result (List ℕ)
fit room x = when leb (length x) (length room) && leb (length x) max_bytes then gives x else refused 13 0

-- 'then 6 or 7 of the result, then 13': some records are added to a document with some open blocks; the places of 6 and 7 'are where
-- the record would stand'
unfoldable pub add : List ℕ → List ℕ → List ℕ → List ℕ → Result (List ℕ)
add room doc stack x = reads (length doc) 0 stack x >>= λ _. fit room (doc ++ x)

module _ (room : List ℕ) (n : ℕ) where
  -- 'writes text in a style'; 'then 5 of written text', which 'has place 0'
  unfoldable pub writes : Style → List ℕ → Result (List ℕ)
  writes st x =
      so_far room n >>= λ doc.
      open_blocks doc >>= λ _.
      when utf8 x then fit room (written st x 0 doc) else refused 5 0

  -- 'opens or closes a block'
  unfoldable pub opens_block : Block → Result (List ℕ)
  opens_block b = so_far room n >>= λ doc. open_blocks doc >>= λ stack. add room doc stack (start b)

  unfoldable pub closes_block : Block → Result (List ℕ)
  closes_block b = so_far room n >>= λ doc. open_blocks doc >>= λ stack. add room doc stack (end b)

  -- 'adds a document'; 'then .. 1 to 8 of an added document', whose places 'count from its own start'; the records that are added
  -- for it stand in InlineBlock
  unfoldable pub adds_as : List ℕ → List ℕ → Result (List ℕ)
  adds_as x records =
      so_far room n >>= λ doc.
      open_blocks doc >>= λ stack.
      check x >>= λ _.
      add room doc stack (around block.InlineBlock records)

  -- '`Doc::doc` brackets a document in InlineBlock'
  unfoldable pub adds_doc : List ℕ → Result (List ℕ)
  adds_doc x = adds_as x x

  -- '`Doc::em_doc` does too; ..'
  unfoldable pub adds_em_doc : List ℕ → Result (List ℕ)
  adds_em_doc x = adds_as x (emphasised x)
