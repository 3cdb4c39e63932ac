-- Places of a document in its joined form: what becomes of a refusal when the same records are walked there.
use Rattle.std.specs.Prelude.{ℕ, ◌+◌, ◌-◌, Bool, List, [], ◌∷◌, leb, eqb}
use Rattle.base.specs.Choice.{when◌then◌else◌, among}
use Rattle.base.specs.Result.{Result, gives, refused}
use Rattle.records.specs.Records.{size}
use Rattle.joined_rules.specs.Joined.{records_at, heads_in}

-- of the refusals that a walk meets, 10 and 11 have a place in the document
unfoldable pub placed : ℕ → Bool
placed n = among 10 11 n

-- the place of the record that a document has at place p: here are the records at `at` in the document, and at q in the joined form
unfoldable pub place_from : ℕ → ℕ → List (List ℕ) → ℕ → ℕ
place_from q at [] p = q
place_from q at (h ∷ hs) p = when leb p at then q else place_from (q + 6) (at + (6 + size h)) hs p

-- the place of the byte of a body that a document has at place p, or of the end of that body: the same with the text at `from`
unfoldable pub byte_from : ℕ → ℕ → List (List ℕ) → ℕ → ℕ
byte_from from at [] p = from
byte_from from at (h ∷ hs) p = when leb p (at + (6 + size h)) then from + (p - (at + 6)) else byte_from (from + size h) (at + (6 + size h)) hs p

-- a record's place
unfoldable pub place_in : List ℕ → ℕ → ℕ
place_in j p = place_from (records_at j) 0 (heads_in j) p

-- a byte's place
unfoldable pub byte_in : List ℕ → ℕ → ℕ
byte_in j p = byte_from 4 0 (heads_in j) p

-- the place of a refusal with number n: 10 names a byte of a body or the body's end, 11 a record
unfoldable pub back_in : List ℕ → ℕ → ℕ → ℕ
back_in j n p = when eqb n 10 then byte_in j p else place_in j p

-- a refusal's place, which is changed where it has one in the document
unfoldable pub turned : (ℕ → ℕ → ℕ) → ℕ → ℕ → ℕ
turned back n p = when placed n then back n p else p

module _ {A : Type 0} where
  -- a result with the place of a refusal changed
  abbrev pub relocated : (ℕ → ℕ → ℕ) → Result A → Result A
  relocated back (gives a) = gives a
  relocated back (refused n p) = refused n (turned back n p)
