-- What reading a record answers, seen as the rules' record.
use Rattle.std.specs.Prelude.{ℕ, ◌+◌, ◌≤◌, ◌<◌, ◌≡◌, ◌&&◌, true, List, [], ◌∷◌, leb, ltb, eqb, length, take, drop}
use Rattle.base.specs.Choice.{when◌then◌else◌}
use Rattle.base.specs.Bytes.{part}
use Rattle.records.specs.Records.{Token, kind_of, tokens_from, record_fits, size, little}
use Rattle.records.specs.declared.Kind.TheVariants as kind
use Rattle.records.specs.declared.Head.{Head}
use Rattle.records.specs.declared.Raw.{Raw}

-- a head whose kind is still a number
abbrev pub head_of : Raw → Head
head_of r = record { kind = kind_of r.code; start = r.start; next = r.next }

-- the record that a head tells of
abbrev pub token_of : List ℕ → ℕ → Head → Token
token_of s at h = record { place = at; start = h.start; kind = h.kind; body = part s h.start h.next }

-- A record was read at a place: it is the next token and the rest follows; past the end there is none. A body that is cut short
-- ends with the document.
pub record Read (s : List ℕ) (at : ℕ) (h : Head) : Type 0 where
  pub listed : tokens_from s at ≡ when ltb at (length s) then token_of s at h ∷ tokens_from s h.next else []
  pub low : at < length s → at < h.start
  pub order : h.start ≤ h.next
  pub high : h.next ≤ length s
  pub past : length s ≤ at → h ≡ record { kind = kind.Unknown; start = length s; next = length s }
  pub whole : at < length s → record_fits (drop at s) ≡ true → (h.start ≡ at + 6) × (h.next ≡ at + (6 + size (drop at s)))

-- the number of the kind of the record that some bytes begin with, where it has no body and all its six bytes are there; else 0
unfoldable pub bare : List ℕ → ℕ
bare s = when leb 6 (length s) && eqb (size s) 0 then little (take 2 (drop 4 s)) else 0
