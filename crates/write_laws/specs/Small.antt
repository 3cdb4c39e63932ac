-- Small writes (02, point 9): texts written one after another in a style, by the rules and by `write_str`.
use Rattle.std.specs.Prelude.{ℕ, ◌+◌, ◌<◌, ◌≡◌, Bool, true, false, List, [], ◌∷◌, ◌++◌, length, take, get_or, Result as Answer, Ok}
use Rattle.base.specs.Result.{Result, gives, refused, measured, ◌>>=◌}
use Rattle.utf8.specs.Utf8.{utf8}
use Rattle.records.specs.Records.{Token, tokens}
use Rattle.records.specs.Stored.{text}
use Rattle.records.specs.declared.Style.{Style}
use Rattle.buffer.specs.Builder.{is_text, writes}
use Rattle.buffer.specs.Answers.{Follows, kept}
use Rattle.refusal.specs.Answers.{answered}
use Rattle.refusal.specs.declared.Refusal.{Refusal}

-- a text, and then others, each written to the document that the one before left; the first refusal is the answer
unfoldable pub writes_all : List ℕ → ℕ → Style → List ℕ → List (List ℕ) → Result (List ℕ)
writes_all room n st x [] = writes room n st x
writes_all room n st x (y ∷ ys) = writes room n st x >>= λ doc. writes_all (kept room (gives doc)) (length doc) st y ys

-- a room that goes by an accepted document, or the room as it is where it was refused
unfoldable pub or_unchanged : List ℕ → Result (List ℕ) → (List ℕ → List ℕ) → List ℕ
or_unchanged room (gives doc) f = f doc
or_unchanged room (refused m q) f = room

-- the room after these writes: a refused one leaves it as those before it did
unfoldable pub room_after_all : List ℕ → ℕ → Style → List ℕ → List (List ℕ) → List ℕ
room_after_all room n st x [] = kept room (writes room n st x)
room_after_all room n st x (y ∷ ys) = or_unchanged room (writes room n st x) (λ doc. room_after_all (kept room (gives doc)) (length doc) st y ys)

-- texts joined
unfoldable pub joined_texts : List (List ℕ) → List ℕ
joined_texts [] = []
joined_texts (x ∷ xs) = x ++ joined_texts xs

-- texts that are UTF-8, each by itself
pub data AllUtf8 : List (List ℕ) → Type 0 where
  none : AllUtf8 []
  some : {x : List ℕ} {xs : List (List ℕ)} → utf8 x ≡ true → AllUtf8 xs → AllUtf8 (x ∷ xs)

-- 'when the last record is text of that style'
unfoldable pub last_text : Style → List Token → Bool
last_text st [] = false
last_text st (t ∷ []) = is_text st t.kind
last_text st (t ∷ u ∷ ts) = last_text st (u ∷ ts)

-- a room holds bytes
pub record Bytes (room : List ℕ) : Type 0 where
  pub each : (k : ℕ) → get_or room k 0 < 256

-- a call of `write_str`, by what it promises of its answer and of the room after it
pub record Wrote (room : List ℕ) (len : ℕ) (st : Style) (x : List ℕ) (r : Answer ℕ Refusal) (after : List ℕ) : Type 0 where
  pub call : Follows (writes room len st x) room after r

-- 'writing one text and then another in the same style, both UTF-8 and both accepted, leaves the same document as writing them joined', of two
-- calls, by the last answer and the room at the end: of texts that are UTF-8 the answer, refused or not, is that of one call with the two
-- joined; and where both calls are accepted, every byte of the room is as after that one
pub record AsJoined (room : List ℕ) (len : ℕ) (st : Style) (x y : List ℕ) (r : Answer ℕ Refusal) (after : List ℕ) : Type 0 where
  pub answer : utf8 x ≡ true → utf8 y ≡ true → answered r ≡ measured (writes room len st (x ++ y))
  pub room_after : (k : ℕ) → r ≡ Ok k → after ≡ kept room (writes room len st (x ++ y))

-- an empty text in a call, by its answer and the room after it: accepted, it 'changes nothing when the last record is text of that style', no byte of
-- the room and not the length, 'and otherwise adds one empty record', whose six bytes stand after the document
pub record EmptyCall (room : List ℕ) (len : ℕ) (st : Style) (r : Answer ℕ Refusal) (after : List ℕ) : Type 0 where
  pub nothing : (k : ℕ) → r ≡ Ok k → last_text st (tokens 0 0 (take len room)) ≡ true → (k ≡ len) × (after ≡ room)
  pub one_record : (k : ℕ) → r ≡ Ok k → last_text st (tokens 0 0 (take len room)) ≡ false
      → (k ≡ len + 6) × (after ≡ kept room (gives (take len room ++ text st [])))

-- calls of `write_str` one after another, each accepted and each on what the one before left: m is the length at the end, `last` the room
pub data Calls (st : Style) : List ℕ → ℕ → List (List ℕ) → ℕ → List ℕ → Type 0 where
  one : {room : List ℕ} {n : ℕ} {x : List ℕ} {k : ℕ} {after : List ℕ} → Wrote room n st x (Ok k) after → Calls st room n (x ∷ []) k after
  more : {room : List ℕ} {n : ℕ} {x : List ℕ} {k : ℕ} {after : List ℕ} {xs : List (List ℕ)} {m : ℕ} {last : List ℕ}
      → Wrote room n st x (Ok k) after → Calls st after k xs m last → Calls st room n (x ∷ xs) m last
