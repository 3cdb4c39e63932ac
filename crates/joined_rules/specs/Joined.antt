-- The joined form (02, point 7): 'four-byte length of the text, the text, then for each old record its four-byte length and two-byte kind,
-- bodies taken out'. Its refusals, its records, and moving over and back.
use Rattle.std.specs.Prelude.{ℕ, zero, suc, ◌+◌, ◌-◌, Bool, ◌&&◌, List, [], ◌∷◌, ◌++◌, leb, ltb, eqb, length, take, drop}
use Rattle.std.specs.List.{concat}
use Rattle.base.specs.Choice.{when◌then◌else◌}
use Rattle.base.specs.Result.{Result, gives, refused, ◌>>=◌}
use Rattle.utf8.specs.Utf8.{utf8}
use Rattle.records.specs.Records.{Token, little, kind_of, index, size, order, document_text}
use Rattle.records.specs.Stored.{little_bytes}
use Rattle.records.specs.declared.Kind.{Kind}
use Rattle.records.specs.declared.Kind.TheVariants as kind
use Rattle.document.specs.Document.{opens, closes, closed, check}
use Rattle.room.specs.Room.{extended}

-- Both forms

-- The first six bytes of each record of some bytes, its length and kind, after `pass` bytes that are passed over; `after` tells of a record's
-- bytes how many of them follow its first six. The last may be cut short.
unfoldable pub cut : (List ℕ → ℕ) → ℕ → List ℕ → List (List ℕ)
cut after pass [] = []
cut after (suc pass) (b ∷ s) = cut after pass s
cut after zero (b ∷ s) = take 6 (b ∷ s) ∷ cut after (5 + after (b ∷ s)) s

-- a record's kind, by its first six bytes; `size` is its length
unfoldable pub head_kind : List ℕ → Kind
head_kind h = kind_of (little (take 2 (drop 4 h)))

-- The joined form's parts

-- not refusal 17: 'under four bytes stand or the text runs past the end'
unfoldable pub has_text : List ℕ → Bool
has_text j = leb 4 (length j) && leb (size j) (length j - 4)

-- 'four-byte length of the text, the text'
unfoldable pub text_in : List ℕ → List ℕ
text_in j = take (size j) (drop 4 j)

-- where the records start
unfoldable pub records_at : List ℕ → ℕ
records_at j = 4 + size j

-- 'then for each old record its four-byte length and two-byte kind': from a place on
abbrev pub heads_from : List ℕ → ℕ → List (List ℕ)
heads_from j at = cut (λ _. 0) 0 (drop at j)

-- all of them
unfoldable pub heads_in : List ℕ → List (List ℕ)
heads_in j = heads_from j (records_at j)

-- Refusals

-- 'with 4 on any length but 0'
unfoldable pub lengthless : ℕ → ℕ → Result (List ℕ) → Result (List ℕ)
lengthless p n r = when eqb n 0 then r else refused 4 p

-- '18 when a record's text passes the end of the joined text, tested before 5 at that record'; '5 on each text's share'
unfoldable pub shares : ℕ → ℕ → List ℕ → List ℕ → Result (List ℕ)
shares p n text stack = when leb n (length text) then (when utf8 (take n text) then gives stack else refused 5 p) else refused 18 p

-- a record by its kind and its length, where some text is left: the blocks open after it. 3, 6 and 7 as in the old form.
unfoldable pub accept_share : ℕ → Kind → ℕ → List ℕ → List ℕ → Result (List ℕ)
accept_share p kind.Unknown n text stack = refused 3 p
accept_share p (kind.Text st) n text stack = shares p n text stack
accept_share p (kind.Start b) n text stack = lengthless p n (opens p (index b) stack)
accept_share p (kind.End b) n text stack = lengthless p n (closes p (index b) stack)

-- a record: '2 (only for under 6 bytes left)', then 3, 4, 18, 5, 6, 7
unfoldable pub first_share : ℕ → List ℕ → List ℕ → List ℕ → Result (List ℕ)
first_share p text stack h = when leb 6 (length h) then accept_share p (head_kind h) (size h) text stack else refused 2 p

-- '18 .. when text is left over, tested after 8 with the document's length as place', of a joined form of m bytes
unfoldable pub used : ℕ → List ℕ → List ℕ → Result (List ℕ)
used m text stack = when eqb (length text) 0 then gives stack else refused 18 m

-- record by record, from place p on, 2 to 7 and 18; then 8, then 18: of a joined form of m bytes
unfoldable pub reads_shares : ℕ → ℕ → List ℕ → List ℕ → List (List ℕ) → Result (List ℕ)
reads_shares m p text stack [] = closed m stack >>= used m text
reads_shares m p text stack (h ∷ hs) = first_share p text stack h >>= λ after. reads_shares m (p + 6) (drop (size h) text) after hs

-- 'Limit 32,772 bytes under 1, tested first'
unfoldable pub short_joined : List ℕ → Result (List ℕ)
short_joined j = when ltb 32_772 (length j) then refused 1 0 else gives j

-- '17 with place 0 .., tested after 1 and before 9'
unfoldable pub whole_text : List ℕ → Result (List ℕ)
whole_text j = when has_text j then gives j else refused 17 0

-- what follows 1 and 17, and 9 in the console
unfoldable pub reads_joined : List ℕ → Result (List ℕ)
reads_joined j = reads_shares (length j) (records_at j) (text_in j) [] (heads_in j)

unfoldable pub check_joined : List ℕ → Result (List ℕ)
check_joined j = short_joined j >>= whole_text >>= reads_joined

-- Records

-- 'text lengths count bytes of the joined text in order': the records from place p on, where some text is left, which starts at place `from`
unfoldable pub tokens_shared : ℕ → ℕ → List ℕ → List (List ℕ) → List Token
tokens_shared p from text [] = []
tokens_shared p from text (h ∷ hs) =
    record { place = p; start = from; kind = head_kind h; body = take (size h) text }
    ∷ tokens_shared (p + 6) (from + size h) (drop (size h) text) hs

-- the records of a joined form, as the rules of the renderers take them; 'places are offsets in the new form'
unfoldable pub tokens_in : List ℕ → List Token
tokens_in j = tokens_shared (records_at j) 4 (text_in j) (heads_in j)

unfoldable pub joined_order : List ℕ → List ℕ
joined_order j = order (tokens_in j)

-- Moving

unfoldable pub heads_of : List ℕ → List (List ℕ)
heads_of d = cut size 0 d

-- a document in the joined form
unfoldable pub joined_form : List ℕ → List ℕ
joined_form d = little_bytes 4 (length (document_text d)) ++ (document_text d ++ concat (heads_of d))

-- each record's first bytes, and its share of the text
unfoldable pub records : List ℕ → List (List ℕ) → List ℕ
records text [] = []
records text (h ∷ hs) = h ++ (take (size h) text ++ records (drop (size h) text) hs)

-- a joined form as a document
unfoldable pub unjoined : List ℕ → List ℕ
unjoined j = records (text_in j) (heads_in j)

-- refusals 1 to 8 of the one, or 1, 17, 2 to 8 and 18 of the other
unfoldable pub joins : List ℕ → Result (List ℕ)
joins d = check d >>= λ _. gives (joined_form d)

unfoldable pub unjoins : List ℕ → Result (List ℕ)
unjoins j = check_joined j >>= λ _. gives (unjoined j)

-- '13 last when moving lacks room': into a room of so many bytes
unfoldable pub joins_into : ℕ → List ℕ → Result (List ℕ)
joins_into room d = joins d >>= λ x. extended room x []

unfoldable pub unjoins_into : ℕ → List ℕ → Result (List ℕ)
unjoins_into room j = unjoins j >>= λ x. extended room x []
