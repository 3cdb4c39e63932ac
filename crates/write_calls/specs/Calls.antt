-- Small writes through the C interface (02, point 9): what calls of `sefgrunn_write` return, store and leave, in the style with a number. A number
-- outside 1 to 5 is no exception: it is refused as 3, in one call or in several.
use Rattle.std.specs.Prelude.{ℕ, ◌+◌, ◌-◌, ◌≡◌, true, false, List, [], ◌∷◌, ◌++◌, length, take, get_or}
use Rattle.base.specs.Result.{Result, gives, measured, ◌>>=◌}
use Rattle.utf8.specs.Utf8.{utf8}
use Rattle.records.specs.Records.{styles, tokens}
use Rattle.records.specs.Stored.{text}
use Rattle.records.specs.declared.Style.{Style}
use Rattle.records.specs.declared.Style.TheVariants as style
use Rattle.buffer.specs.Answers.{kept}
use Rattle.write_laws.specs.Small.{last_text}
use Rattle.sefgrunn.specs.Numbers.{number_of, place_of, length_after, writes_in}

-- the style with a number from 1 to 5
abbrev pub style_at : ℕ → Style
style_at k = get_or styles (k - 1) style.Text

-- a text and then another, written to the document that the first left; the first refusal is the answer
unfoldable pub two_in : List ℕ → ℕ → ℕ → List ℕ → List ℕ → Result (List ℕ)
two_in room n k x y = writes_in room n k x >>= λ doc. writes_in (kept room (gives doc)) (length doc) k y

-- what `sefgrunn_write` promises of a call in a room, with a length so far (the proofs of `write_two` and `write_empty` take it from the contract): the
-- number, the length and the place, and the room after it
pub record Called (room : List ℕ) (n k : ℕ) (x : List ℕ) (number len place : ℕ) (after : List ℕ) : Type 0 where
  pub number_is : number ≡ number_of (writes_in room n k x)
  pub length-is : len ≡ length_after n (measured (writes_in room n k x))
  pub place_is : place ≡ place_of (writes_in room n k x)
  pub room_is : after ≡ kept room (writes_in room n k x)

-- 'writing one text and then another in the same style, both UTF-8 and both accepted, leaves the same document as writing them joined', by what the last call
-- returned and stored, and the room at the end
pub record AsOneCall (room : List ℕ) (n k : ℕ) (x y : List ℕ) (number len place : ℕ) (after : List ℕ) : Type 0 where
  -- both are accepted: all is as after one call with the two joined, every byte of the room too
  pub accepted : number ≡ 0 → Called room n k (x ++ y) number len place after
  -- of texts that are UTF-8 the number and the place are that call's, refused or not
  pub answer : utf8 x ≡ true → utf8 y ≡ true → (number ≡ number_of (writes_in room n k (x ++ y))) × (place ≡ place_of (writes_in room n k (x ++ y)))

-- 'an accepted empty write changes nothing when the last record is text of that style', not the length and no byte of the room, 'and otherwise adds one
-- empty record', whose six bytes stand after the document
pub record EmptyWrite (room : List ℕ) (n k : ℕ) (number len : ℕ) (after : List ℕ) : Type 0 where
  pub nothing : number ≡ 0 → last_text (style_at k) (tokens 0 0 (take n room)) ≡ true → (len ≡ n) × (after ≡ room)
  pub one_record : number ≡ 0 → last_text (style_at k) (tokens 0 0 (take n room)) ≡ false
      → (len ≡ n + 6) × (after ≡ kept room (gives (take n room ++ text (style_at k) [])))

-- calls one after another, each accepted and each on what the one before left: the length, the place and the room at the end
pub data CallsIn (k : ℕ) : List ℕ → ℕ → List (List ℕ) → ℕ → ℕ → List ℕ → Type 0 where
  one : {room : List ℕ} {n : ℕ} {x : List ℕ} {m p : ℕ} {after : List ℕ} → Called room n k x 0 m p after → CallsIn k room n (x ∷ []) m p after
  more : {room : List ℕ} {n : ℕ} {x : List ℕ} {m p : ℕ} {after : List ℕ} {xs : List (List ℕ)} {len place : ℕ} {last : List ℕ}
      → Called room n k x 0 m p after → CallsIn k after m xs len place last → CallsIn k room n (x ∷ xs) len place last
